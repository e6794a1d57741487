-- Cells of a lent row that keep their number, and the registers lent on from it.
use mathlib.Core.Path.{◌≡◌, refl, sym, ap, ap₂, ◌∙◌}
use mathlib.Core.Bool.{Bool, true, false, not, cond, ◌&&◌}
use mathlib.Core.List.{List, [], ◌∷◌}
use Prim.Native.Nat.{ℕ, ◌+◌, ◌≤◌}
use native.Mathlib.Omega.{arith}
use lib.Dec.{T, eqb, ltb}
use lib.ListN.{length, get_or, set, length-set}
use lib.Seq.{set-get_or, get_or-set_other}
use Rattle.lists.specs.Parts.{part, put_back}
use Rattle.lists.specs.Tests.{inside}
use Rattle.lists.proofs.Choice.{T_true, inside_low}
use Rattle.lists.proofs.Parts.{part_length, get_or_part, get_or_put_back_at, put_back_part, put_back_set}
use Rattle.masks.specs.Mask.{has, with, put, has_all}
use Rattle.registers.specs.Register.{claimed, held, offered_outcome, offered_value, Claiming, claiming, Offering, offering, holding}
use Rattle.std.specs.Prelude.{Option, Result, Ok, IsErrAnd, is_some}
use Rattle.protocol.proofs.Answers.{not_accepted, passed_on}
use Rattle.registers.specs.declared.Decision.{Decision}
use Rattle.registers.proofs.Laws.{offering_length, answer_holds, offered_cells, claimed_cells, held_outcome, held_some, taken_offered}
use Rattle.protocol.specs.declared.Refusal.{Refusal}
use Rattle.protocol.specs.declared.Counts.{Counts}
use Rattle.protocol.specs.Answers.{answer_number, refusal_number}
use Rattle.protocol.specs.Cells.{Field, outcome, value, known, terminating, acked, field_exists}
use Rattle.protocol.specs.Rules.{RowRule, decides, decide_rule, ack_rule}
use Rattle.table.specs.Layout.{slot}
use Rattle.table.specs.Table.{set_fields, row_view}
use Rattle.table.specs.Jobs.{Done}
use Rattle.gates.specs.Gates.{loaded, as_row, given}
use Rattle.rows.specs.Rows.{obeys, acknowledges, stepped, result_given}

-- two cells written with what they held
pub kept : (l : List ℕ) (j k : ℕ) → l ≡ set (set l j (get_or l j 0)) k (get_or l k 0)
kept l j k = sym (ap (λ x. set x k (get_or l k 0)) (set-get_or l j 0) ∙ set-get_or l k 0)

-- ---- a register of the row, lent on by itself

module _ (l : List ℕ) (long : 13 ≤ length l) where
  pub lent_claim : (server : ℕ) (answer : Result ℕ ℕ) (cells : List ℕ) → ◌≡◌ {A = Claiming} (record { answer = answer; cells = cells }) (claiming (part 0 1 l) server)
      → put_back 0 1 l cells ≡ set l 0 (claimed (get_or l 0 0) server)
  lent_claim server answer cells e =
      let fits : 0 + 1 ≤ length l = omega arith in
      ap (λ x. put_back 0 1 l x.cells) e
      ∙ ap (put_back 0 1 l) (claimed_cells (part 0 1 l) server)
      ∙ put_back_set 0 1 l (part 0 1 l) 0 (claimed (get_or (part 0 1 l) 0 0) server) fits (part_length 0 1 l fits) (omega arith)
      ∙ ap (λ x. set x 0 (claimed (get_or (part 0 1 l) 0 0) server)) (put_back_part 0 1 l fits)
      ∙ ap (λ x. set l 0 (claimed x server)) (get_or_part 0 1 l 0 (omega arith))

  pub lent_offer : (d : Option Decision) (answer : Result (Option Decision) Decision) (cells : List ℕ)
      → ◌≡◌ {A = Offering} (record { answer = answer; cells = cells }) (offering (part 1 2 l) d)
      → put_back 1 2 l cells ≡ set (set l 1 (offered_outcome (get_or l 1 0) d)) 2 (offered_value (get_or l 1 0) (get_or l 2 0) d)
  lent_offer d answer cells e =
      let fits : 1 + 2 ≤ length l = omega arith in
      let o = offered_outcome (get_or (part 1 2 l) 0 0) d in
      let v = offered_value (get_or (part 1 2 l) 0 0) (get_or (part 1 2 l) 1 0) d in
      let first = set (part 1 2 l) 0 o in
      ap (λ x. put_back 1 2 l x.cells) e
      ∙ ap (put_back 1 2 l) (offered_cells (part 1 2 l) d)
      ∙ put_back_set 1 2 l first 1 v fits (length-set (part 1 2 l) 0 o ∙ part_length 1 2 l fits) (omega arith)
      ∙ ap (λ x. set x 2 v) (put_back_set 1 2 l (part 1 2 l) 0 o fits (part_length 1 2 l fits) (omega arith) ∙ ap (λ x. set x 1 o) (put_back_part 1 2 l fits))
      ∙ ap (λ x. set (set l 1 (offered_outcome x d)) 2 (offered_value x (get_or (part 1 2 l) 1 0) d)) (get_or_part 1 2 l 0 (omega arith))
      ∙ ap (λ x. set (set l 1 (offered_outcome (get_or l 1 0) d)) 2 (offered_value (get_or l 1 0) x d)) (get_or_part 1 2 l 1 (omega arith))

  -- the answer is the decision that the row then holds
  pub lent_holds : (d : Option Decision) (answer : Result (Option Decision) Decision) (cells : List ℕ)
      → ◌≡◌ {A = Offering} (record { answer = answer; cells = cells }) (offering (part 1 2 l) d)
      → holding answer ≡ held (get_or (put_back 1 2 l cells) 1 0) (get_or (put_back 1 2 l cells) 2 0)
  lent_holds d answer cells e =
      let fits : 1 + 2 ≤ length l = omega arith in
      let size : length cells ≡ 2 = ap (λ x. length x.cells) e ∙ offering_length (part 1 2 l) d ∙ part_length 1 2 l fits in
      ap (λ x. holding x.answer) e ∙ sym (answer_holds (part 1 2 l) d (part_length 1 2 l fits))
      ∙ ap (λ x. held (get_or x.cells 0 0) (get_or x.cells 1 0)) (sym e)
      ∙ sym (ap₂ held (get_or_put_back_at 1 2 l cells fits size 0 (omega arith)) (get_or_put_back_at 1 2 l cells fits size 1 (omega arith)))

  pub lent_taken : (d taken : Option Decision) (answer : Result (Option Decision) Decision) (cells : List ℕ)
      → ◌≡◌ {A = Offering} (record { answer = answer; cells = cells }) (offering (part 1 2 l) d) → answer ≡ Ok taken → taken ≡ d
  lent_taken d taken answer cells e f = taken_offered (part 1 2 l) d taken (ap (λ x. x.answer) (sym e) ∙ f)

-- ---- the server terminates after its offer: the cell of the servers terminating was not written before

pub swept : (l m q : List ℕ) (i o v : ℕ) → m ≡ set (set l 1 o) 2 v → q ≡ set m 10 (with (get_or m 10 0) i) → q ≡ set (set (set l 1 o) 2 v) 10 (with (get_or l 10 0) i)
swept l m q i o v e f =
    f ∙ ap (λ x. set x 10 (with (get_or x 10 0) i)) e
    ∙ ap (λ x. set (set (set l 1 o) 2 v) 10 (with x i)) (get_or-set_other (set l 1 o) 2 10 v 0 (omega arith) ∙ get_or-set_other l 1 10 o 0 (omega arith))

pub settled : (l m q : List ℕ) (i o v : ℕ) → m ≡ set (set l 1 o) 2 v → q ≡ set (set m 9 1) 10 (with (get_or (set m 9 1) 10 0) i)
    → q ≡ set (set (set (set l 1 o) 2 v) 9 1) 10 (with (get_or l 10 0) i)
settled l m q i o v e f =
    f ∙ ap (λ x. set (set x 9 1) 10 (with (get_or (set x 9 1) 10 0) i)) e
    ∙ ap (λ x. set (set (set (set l 1 o) 2 v) 9 1) 10 (with x i))
    (get_or-set_other (set (set l 1 o) 2 v) 9 10 1 0 (omega arith) ∙ get_or-set_other (set l 1 o) 2 10 v 0 (omega arith) ∙ get_or-set_other l 1 10 o 0 (omega arith))

-- ---- a rule: where the gate accepts its effect follows, and where the gate refuses nothing does

module _ (n : Counts) (l : List ℕ) (rule : RowRule) where
  pub went : (new : List ℕ) → 0 ≡ given rule → new ≡ set_fields n l rule.writes → ◌≡◌ {A = Done} (record { number = 0; cells = new }) (stepped n l rule)
  went new gate effect = rw (sym gate, sym effect)

  pub stayed : (answer : Result (Unit {0}) Refusal) (refusal : Refusal) → IsErrAnd answer (λ given-back. given-back ≡ refusal) → refusal_number refusal ≡ given rule
      → ◌≡◌ {A = Done} (record { number = answer_number answer; cells = l }) (stepped n l rule)
  stayed answer refusal back gate = rw (passed_on answer refusal back, sym gate, not_accepted refusal)

-- ---- cells of a server that there is

pub field_read : (n : Counts) (l : List ℕ) (f : Field) → T (field_exists n f) → row_view n l f ≡ get_or l (slot n f) 0
field_read n l f x = ap (λ b. cond b (get_or l (slot n f) 0) 0) (T_true (field_exists n f) x)

-- such a cell at the place that the code computed: read, and written
pub read_at : (n : Counts) (l : List ℕ) (f : Field) (at : ℕ) → T (field_exists n f) → at ≡ slot n f → get_or l at 0 ≡ row_view n l f
read_at n l f at x e = ap (λ p. get_or l p 0) e ∙ sym (field_read n l f x)

pub marked_at : (n : Counts) (l : List ℕ) (f : Field) (d at new : ℕ) → T (field_exists n f) → at ≡ slot n f → new ≡ with (get_or l at 0) d
    → set l at new ≡ set_fields n l ((f, with (row_view n l f) d) ∷ [])
marked_at n l f d at new x e h = ap (set l at) (h ∙ ap (λ y. with y d) (read_at n l f at x e)) ∙ ap (λ p. set l p (with (row_view n l f) d)) e

-- the decision's arrival: what the struct says of the outcome is what the cells say
pub decide_given : (n : Counts) (l : List ℕ) (i d : ℕ) → given (decide_rule i d (as_row (loaded n l))) ≡ given (decide_rule i d (row_view n l))
decide_given n l i d = ap (λ b. cond (has (row_view n l terminating) i && (b && true)) 0 6) (held_outcome (row_view n l outcome) (row_view n l value))

-- an acknowledgement's arrival: what the code read is the cell of those sent
pub ack_given : (n : Counts) (l : List ℕ) (i d at : ℕ) (marked : Bool) → T (inside n.servers i) → at ≡ slot n (acked i) → marked ≡ has (get_or l at 0) d
    → cond marked 0 6 ≡ given (ack_rule i d (row_view n l))
ack_given n l i d at marked x e f = ap (λ b. cond b 0 6) (f ∙ ap (λ y. has y d) (read_at n l (acked i) at x e)) ∙ alone (has (row_view n l (acked i)) d)
  where
    alone : (b : Bool) → ◌≡◌ {A = ℕ} (cond b 0 6) (cond (b && true) 0 6)
    alone true = refl
    alone false = refl

-- a message that is not sent for its second reason
pub never : (b : Bool) → ◌≡◌ {A = ℕ} (cond (b && (false && true)) 0 6) 6
never true = refl
never false = refl

-- what rule 14 asks of the row: the code reads the outcome by the register, and the acknowledgements known at their place
pub known_given : (n : Counts) (l : List ℕ) (i at : ℕ) (decision all_known : Bool) → T (inside n.servers i) → at ≡ slot n (known i)
    → decision ≡ is_some (held (row_view n l outcome) (row_view n l value)) → all_known ≡ has_all n.databases (get_or l at 0)
    → cond (decision && all_known) 0 6 ≡ result_given n i (row_view n l)
known_given n l i at decision all_known x e f g =
    ap₂ (λ b k. cond (b && k) 0 6)
    (f ∙ held_some (row_view n l outcome) (row_view n l value)) (g ∙ ap (has_all n.databases) (read_at n l (known i) at x e))
    ∙ both (ltb 0 (row_view n l outcome)) (has_all n.databases (row_view n l (known i)))
  where
    both : (b k : Bool) → ◌≡◌ {A = ℕ} (cond (b && k) 0 6) (cond (b && (k && true)) 0 6)
    both true true = refl
    both true false = refl
    both false k = refl

-- the acknowledgement after the database decided: its cell was not written before
pub acknowledged : (n : Counts) (l m q : List ℕ) (i d : ℕ) → T (inside n.servers i) → m ≡ set_fields n l (obeys d (row_view n l))
    → q ≡ set_fields n m (acknowledges i d (row_view n m)) → q ≡ set_fields n l (decides i d (row_view n l))
acknowledged n l m q i d x e f =
    let i1 = inside_low n.servers i x in
    let a = cond (not (has (get_or l 11 0) d)) (with (get_or l 11 0) d) (get_or l 11 0) in
    let b = cond (not (has (get_or l 11 0) d)) (put (get_or l 12 0) d (eqb (get_or l 1 0) 1)) (get_or l 12 0) in
    let same : get_or m (12 + i) 0 ≡ get_or l (12 + i) 0 = ap (λ y. get_or y (12 + i) 0) e ∙ get_or-set_other (set l 11 a) 12 (12 + i) b 0 (omega arith) ∙ get_or-set_other l 11 (12 + i) a 0 (omega arith) in
    f ∙ ap (λ y. set y (12 + i) (with (row_view n m (acked i)) d)) e
    ∙ ap (λ y. set (set (set l 11 a) 12 b) (12 + i) (with y d)) (field_read n m (acked i) x ∙ same ∙ sym (field_read n l (acked i) x))
