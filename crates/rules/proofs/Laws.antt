-- Room for the cells that a rule reads and writes, and the rules' writes to the parties' cells and to a lent row.
use mathlib.Core.Path.{◌≡◌, refl, sym, ap, ap₂, ◌∙◌, subst}
use mathlib.Core.Bool.{Bool, true, false, not, cond, ◌&&◌, false≢true}
use mathlib.Core.List.{List, [], ◌∷◌}
use Prim.Native.Nat.{ℕ, suc, ◌+◌, ◌-◌, ◌*◌, ◌<◌, ◌≤◌}
use native.Mathlib.Numerals.{add-one}
use native.Mathlib.Omega.{arith}
use borrow.Author.Tests.{ne_eqb}
use lib.Dec.{T, eqb, ltb, eqb→eq, leb→le, eqb_refl, T_not}
use lib.ListN.{length, get_or, set, length-set}
use Rattle.lists.specs.Tests.{every, All, inside}
use Rattle.lists.specs.Parts.{part, put_back}
use Rattle.lists.proofs.Parts.{put_back_part}
use Rattle.lists.proofs.Choice.{by_cond, by_both, by_eq, inside_low, inside_high, in_inside, every_all, true_T}
use Rattle.masks.specs.Mask.{has_all}
use Rattle.registers.specs.Register.{held}
use Rattle.registers.specs.declared.Decision.{Decision}
use Rattle.registers.specs.declared.Decision.TheVariants.{Commit, Abort}
use Rattle.std.specs.Prelude.{Option, None, Some, Result, IsErrAnd}
use Rattle.registers.proofs.Laws.{none_held, commit_held, abort_held}
use Rattle.protocol.specs.declared.Refusal.{Refusal}
use Rattle.protocol.proofs.Answers.{not_accepted, passed_on}
use Rattle.protocol.specs.declared.Counts.{Counts}
use Rattle.protocol.specs.Answers.{refusal_number, answer_number}
use Rattle.protocol.specs.declared.Event.{Event}
use Rattle.protocol.specs.Cells.{Field, Name, row, owner, outcome, value, known, exists, server_up, suspects, database_up, ready, client_up, phase, attempt, request, delivered}
use Rattle.protocol.specs.Cells.{Row, row_of, store_all, Writes, RowWrites, in_row}
use Rattle.protocol.specs.Events.{kind_of}
use Rattle.protocol.specs.Numbers.{fields, field_tests, in_range}
use Rattle.protocol.proofs.Range.{range_facts, waiting_attempt}
use Rattle.protocol.specs.Rules.{Rule, RowRule, at_result, calls, issue_rule, result_rule, request_rule, compute_rule, prepare_rule, vote_rule, ready_rule, write_rule, clean_rule, decide_rule, ack_rule}
use Rattle.table.specs.Layout.{row_length, row_start, place, table_length}
use Rattle.table.specs.Table.{view, set_all, set_fields, row_view}
use Rattle.table.specs.Jobs.{Done}
use Rattle.table.proofs.Places.{row_end, length_most}
use Rattle.table.proofs.View.{Exist, FieldsExist, view_set_all}
use Rattle.table.proofs.Lent.{row_view_lem, row_fits, lent_writes}
use Rattle.layout.specs.Ranged.{Ranged}
use Rattle.layout.proofs.Laws.{ranged_tests, server_inside, database_inside, client_inside, view_cell, phase_place, attempt_place, request_place, delivered_place}
use Rattle.gates.specs.Gates.{given}
use Rattle.rows.specs.Rows.{stepped, result_given}
use Rattle.std.proofs.Common.{Fits, w64}
use Rattle.rules.specs.Rules.{Held, rule_number, ruled, of_row, row_rule, Follows}

-- ---- room

module _ (n : Counts) (t : List ℕ) (long : length t ≡ table_length n) (ranged : Ranged n) where
  pub room : length t ≤ 3788
  room = omega (arith, length_most n (ranged_tests n ranged))

  pub client_room : (c : ℕ) → T (inside n.clients c) → (1 ≤ c) × (place n (client_up c) + 5 ≤ length t) × (length t ≤ 3788)
  client_room c x =
      let l = inside_low n.clients c x in
      (l, omega (arith, client_inside n c l (inside_high n.clients c x)), room)

  pub database_room : (d : ℕ) → T (inside n.databases d) → (1 ≤ d) × (place n (database_up d) + 2 ≤ length t) × (length t ≤ 3788)
  database_room d x =
      let l = inside_low n.databases d x in
      (l, omega (arith, database_inside n d l (inside_high n.databases d x)), room)

  pub server_room : (i : ℕ) → T (inside n.servers i) → (1 ≤ i) × (place n (server_up i) + 2 ≤ length t) × (length t ≤ 3788)
  server_room i x =
      let l = inside_low n.servers i x in
      (l, omega (arith, server_inside n i l (inside_high n.servers i x)), room)

  pub row_room : (c k : ℕ) → T (inside n.clients c) → T (inside n.attempts k) → (row_start n c k + row_length n ≤ length t) × (length t ≤ 3788)
  row_room c k x y = (omega (arith, row_end n c k x y), room)

-- what the check asks of a cell that code reads or writes at a place counted from where a party's cells start

pub client_sum : (n : Counts) (t : List ℕ) (c at k : ℕ) → Held n t → T (inside n.clients c) → at ≡ place n (client_up c) → k < 5 → Fits w64 (at + k)
client_sum n t c at k sound x e low = omega (arith, client_room n t sound.long sound.ranged c x, e, low)

pub client_offset : (n : Counts) (t : List ℕ) (c at k : ℕ) → Held n t → T (inside n.clients c) → at ≡ place n (client_up c) → k < 5 → Fits w64 ((at + k) * 2)
client_offset n t c at k sound x e low = omega (arith, client_room n t sound.long sound.ranged c x, e, low)

pub client_cell : (n : Counts) (t u : List ℕ) (c at k : ℕ) → Held n t → T (inside n.clients c) → at ≡ place n (client_up c) → k < 5 → length u ≡ length t
    → at + k < length u
client_cell n t u c at k sound x e low same = omega (arith, client_room n t sound.long sound.ranged c x, e, low, same)

pub database_sum : (n : Counts) (t : List ℕ) (c at k : ℕ) → Held n t → T (inside n.databases c) → at ≡ place n (database_up c) → k < 2 → Fits w64 (at + k)
database_sum n t c at k sound x e low = omega (arith, database_room n t sound.long sound.ranged c x, e, low)

pub database_offset : (n : Counts) (t : List ℕ) (c at k : ℕ) → Held n t → T (inside n.databases c) → at ≡ place n (database_up c) → k < 2 → Fits w64 ((at + k) * 2)
database_offset n t c at k sound x e low = omega (arith, database_room n t sound.long sound.ranged c x, e, low)

pub database_cell : (n : Counts) (t u : List ℕ) (c at k : ℕ) → Held n t → T (inside n.databases c) → at ≡ place n (database_up c) → k < 2 → length u ≡ length t
    → at + k < length u
database_cell n t u c at k sound x e low same = omega (arith, database_room n t sound.long sound.ranged c x, e, low, same)

pub server_sum : (n : Counts) (t : List ℕ) (c at k : ℕ) → Held n t → T (inside n.servers c) → at ≡ place n (server_up c) → k < 2 → Fits w64 (at + k)
server_sum n t c at k sound x e low = omega (arith, server_room n t sound.long sound.ranged c x, e, low)

pub server_offset : (n : Counts) (t : List ℕ) (c at k : ℕ) → Held n t → T (inside n.servers c) → at ≡ place n (server_up c) → k < 2 → Fits w64 ((at + k) * 2)
server_offset n t c at k sound x e low = omega (arith, server_room n t sound.long sound.ranged c x, e, low)

pub server_cell : (n : Counts) (t u : List ℕ) (c at k : ℕ) → Held n t → T (inside n.servers c) → at ≡ place n (server_up c) → k < 2 → length u ≡ length t
    → at + k < length u
server_cell n t u c at k sound x e low same = omega (arith, server_room n t sound.long sound.ranged c x, e, low, same)

-- a list that was written is as long as before
pub still_long : (t u : List ℕ) (j v : ℕ) → length u ≡ length t → length (set u j v) ≡ length t
still_long t u j v e = length-set u j v ∙ e

-- ---- a rule: where its gate accepts its effect follows, and where the gate refuses nothing does

module _ (n : Counts) (t : List ℕ) (r : Rule) where
  pub went : (cells : List ℕ) → 0 ≡ rule_number r → cells ≡ set_all n t r.writes → ◌≡◌ {A = Done} (record { number = 0; cells = cells }) (ruled n t r)
  went cells gate effect = rw (sym gate, sym effect)

  pub stayed : (answer : Result (Unit {0}) Refusal) (refusal : Refusal) → IsErrAnd answer (λ given-back. given-back ≡ refusal) → refusal_number refusal ≡ rule_number r
      → ◌≡◌ {A = Done} (record { number = answer_number answer; cells = t }) (ruled n t r)
  stayed answer refusal back gate = rw (passed_on answer refusal back, sym gate, not_accepted refusal)

-- the number of a rule with one "must", that the code asked
pub one_must : (asked holds : Bool) → asked ≡ holds → ◌≡◌ {A = ℕ} (cond asked 0 7) (cond (holds && true) 0 7)
one_must asked holds e = ap (λ b. cond b 0 7) e ∙ alone holds
  where
    alone : (b : Bool) → ◌≡◌ {A = ℕ} (cond b 0 7) (cond (b && true) 0 7)
    alone true = refl
    alone false = refl

pub must_hold : (x k : ℕ) → ◌≡◌ {A = ℕ} 0 (cond (eqb x k) 0 7) → x ≡ k
must_hold x k = by_both (λ b. ◌≡◌ {A = ℕ} 0 (cond b 0 7) → x ≡ k) (eqb x k) (λ t e. eqb→eq x k t) (λ t e. absurd (omega (arith, e)))

-- ---- the rules' writes to a party's cells: at the place that the code computed

-- what a cell holds, at such a place
pub cell_at : (n : Counts) (t : List ℕ) (m : Name) (at : ℕ) → T (exists n m) → at ≡ place n m → get_or t at 0 ≡ view n t m
cell_at n t m at x e = ap (λ p. get_or t p 0) e ∙ sym (view_cell n t m x)

-- ---- a row's rule, on the row lent by itself

module _ (n : Counts) (t : List ℕ) (c k : ℕ) (long : length t ≡ table_length n) (client_in : T (inside n.clients c)) (attempt_in : T (inside n.attempts k)) where
  lent : List ℕ
  lent = part (row_start n c k) (row_length n) t

  -- the lent cells put back, written or as they were
  written_back : (ws : RowWrites) → FieldsExist n ws → (b : Bool)
      → put_back (row_start n c k) (row_length n) t (cond b (set_fields n lent ws) lent) ≡ cond b (set_all n t (in_row c k ws)) t
  unfolding lent
  written_back ws exist true = lent_writes n t c k long client_in attempt_in ws exist
  written_back ws exist false = put_back_part (row_start n c k) (row_length n) t (row_fits n t c k long client_in attempt_in)

  at_result_lem : (rule_of : Row → RowRule) → ((r : Row) → FieldsExist n (rule_of r).writes) → (number : ℕ) (cells : List ℕ)
      → ◌≡◌ {A = Done} (record { number = number; cells = cells }) (stepped n lent (rule_of (row_view n lent)))
      → ◌≡◌ {A = Done} (record { number = number; cells = put_back (row_start n c k) (row_length n) t cells }) (ruled n t (at_result c k (rule_of (row_of (view n t) c k))))
  unfolding lent
  at_result_lem rule_of exist number cells e =
      let rule = rule_of (row_view n lent) in
      ap (λ (d : Done). record { number = d.number; cells = put_back (row_start n c k) (row_length n) t d.cells }) e
      ∙ ap (λ x. record { number = given rule; cells = x }) (written_back rule.writes (exist (row_view n lent)) (eqb (given rule) 0))
      ∙ ap (λ r. ruled n t (at_result c k (rule_of r))) (sym (row_view_lem n t c k long client_in attempt_in))

  -- what is lent, where the code computed the row's start and length
  module _ (start width : ℕ) (start_is : start ≡ row_start n c k) (width_is : width ≡ row_length n) where
    pub lent_owner : T (in_range n (view n t)) → n.servers ≤ 8 → row_view n (part start width t) owner ≤ 16
    lent_owner range few =
        let tests = (range_facts n (view n t) range).rows c k client_in attempt_in in
        let most : view n t (row c k owner) ≤ 16 = omega (arith, leb→le (view n t (row c k owner)) n.servers tests.0) in
        rw (start_is, width_is) (subst (λ r. r owner ≤ 16) (row_view_lem n t c k long client_in attempt_in) most)

  pub lent_rule : (rule_of : Row → RowRule) → ((r : Row) → FieldsExist n (rule_of r).writes) → (number start width : ℕ) (cells : List ℕ)
      → start ≡ row_start n c k → width ≡ row_length n
      → ◌≡◌ {A = Done} (record { number = number; cells = cells }) (stepped n (part start width t) (rule_of (row_view n (part start width t))))
      → ◌≡◌ {A = Done} (record { number = number; cells = put_back start width t cells }) (ruled n t (at_result c k (rule_of (row_of (view n t) c k))))
  unfolding lent
  lent_rule rule_of exist number start width cells start_is width_is e =
      rw (start_is, width_is) (at_result_lem rule_of exist number cells (rw (start_is, width_is) at e))

  -- the same of writes that no test guards
  pub lent_effect : (writes_of : Row → RowWrites) → ((r : Row) → FieldsExist n (writes_of r)) → (start width : ℕ) (cells : List ℕ)
      → start ≡ row_start n c k → width ≡ row_length n → cells ≡ set_fields n (part start width t) (writes_of (row_view n (part start width t)))
      → put_back start width t cells ≡ set_all n t (in_row c k (writes_of (row_of (view n t) c k)))
  unfolding lent
  lent_effect writes_of exist start width cells start_is width_is e =
      rw (start_is, width_is) (ap (put_back (row_start n c k) (row_length n) t) (rw (start_is, width_is) at e)
      ∙ lent_writes n t c k long client_in attempt_in (writes_of (row_view n lent)) (exist (row_view n lent))
      ∙ ap (λ r. set_all n t (in_row c k (writes_of r))) (sym (row_view_lem n t c k long client_in attempt_in)))

-- ---- writes to parties' cells, then to a row that they do not touch

pub after_parties : (n : Counts) (t u : List ℕ) → length t ≡ table_length n → (ws : Writes) → Exist n ws → u ≡ set_all n t ws → (c k : ℕ)
    → (writes_of : Row → RowWrites) → writes_of (row_of (store_all (view n t) ws) c k) ≡ writes_of (row_of (view n t) c k)
    → set_all n u (in_row c k (writes_of (row_of (view n u) c k))) ≡ set_all n (set_all n t ws) (in_row c k (writes_of (row_of (view n t) c k)))
after_parties n t u long ws exist e c k writes_of same =
    ap (λ x. set_all n x (in_row c k (writes_of (row_of (view n x) c k)))) e
    ∙ ap (λ rs. set_all n (set_all n t ws) (in_row c k rs)) (ap (λ s. writes_of (row_of s c k)) (view_set_all n t long ws exist) ∙ same)

-- a client's cells, behind its first one
module _ (n : Counts) (t : List ℕ) (long : length t ≡ table_length n) (c at : ℕ) (x : T (inside n.clients c)) (e : at ≡ place n (client_up c)) where
  pub phase_at : at + 1 ≡ place n (phase c)
  phase_at = ap (λ p. p + 1) e ∙ sym (phase_place n c)

  pub attempt_at : at + 2 ≡ place n (attempt c)
  attempt_at = ap (λ p. p + 2) e ∙ sym (attempt_place n c)

  pub request_at : at + 3 ≡ place n (request c)
  request_at = ap (λ p. p + 3) e ∙ sym (request_place n c)

  pub delivered_at : at + 4 ≡ place n (delivered c)
  delivered_at = ap (λ p. p + 4) e ∙ sym (delivered_place n c)

  pub phase_is : get_or t (at + 1) 0 ≡ view n t (phase c)
  phase_is = cell_at n t (phase c) (at + 1) x phase_at

  pub attempt_is : get_or t (at + 2) 0 ≡ view n t (attempt c)
  attempt_is = cell_at n t (attempt c) (at + 2) x attempt_at

  -- a request issued: the client's cells, and then the call
  pub issued : (v : ℕ) (q : List ℕ) → (let u = set (set (set t (at + 1) 1) (at + 2) 1) (at + 3) v in q ≡ set_all n u (in_row c 1 (calls (row_of (view n u) c 1))))
      → q ≡ set_all n t (issue_rule (view n t) c v).writes
  issued v q f =
      f ∙ after_parties n t (set (set (set t (at + 1) 1) (at + 2) 1) (at + 3) v) long ((phase c, 1) ∷ (attempt c, 1) ∷ (request c, v) ∷ []) (x, (x, (x, tt)))
      (λ j. set (set (set t (phase_at j) 1) (attempt_at j) 1) (request_at j) v) c 1 calls refl

  -- an attempt that waits is one of the client's
  pub waits_in : T (in_range n (view n t)) → get_or t (at + 1) 0 ≡ 1 → T (inside n.attempts (get_or t (at + 2) 0))
  waits_in range w = rw attempt_is (waiting_attempt n (view n t) (range_facts n (view n t) range) c x (sym phase_is ∙ w))

-- ---- what the field check says at a kind

pub at_kind : (n : Counts) (e : Event) (k : ℕ) → e.kind ≡ k → every (fields n e) ≡ true → All (field_tests n (kind_of k) e)
at_kind n e k f t = every_all (field_tests n (kind_of k) e) (true_T _ (ap (λ x. every (field_tests n (kind_of x) e)) (sym f) ∙ t))

pub numbered : (n id : ℕ) → T (inside n id) → (1 ≤ id) × (id ≤ n)
numbered n id x = (inside_low n id x, inside_high n id x)

-- a kind that is of no row, where the decision over the row's kinds ends
pub no_row : (k : ℕ) → (k ≡ 3 → ⊥) → (k ≡ 4 → ⊥) → (k ≡ 5 → ⊥) → (k ≡ 6 → ⊥) → (k ≡ 7 → ⊥) → (k ≡ 8 → ⊥) → (k ≡ 11 → ⊥) → (k ≡ 12 → ⊥) → (k ≡ 13 → ⊥)
    → of_row k ≡ true → ⊥
no_row k a b c d e f g h i z = false≢true
    (rw (ne_eqb k 3 a, ne_eqb k 4 b, ne_eqb k 5 c, ne_eqb k 6 d, ne_eqb k 7 e, ne_eqb k 8 f, ne_eqb k 11 g, ne_eqb k 12 h, ne_eqb k 13 i) at z)

-- what is asked of no party, number 0, is 0
pub ready_nobody : (n : Counts) (t : List ℕ) (d : ℕ) → d ≡ 0 → view n t (ready d) ≡ 0
unfolding view
ready_nobody n t d e = rw e refl

pub suspects_nobody : (n : Counts) (t : List ℕ) (i : ℕ) → i ≡ 0 → view n t (suspects i) ≡ 0
unfolding view
suspects_nobody n t i e = rw e refl

-- of a party or an attempt that is not the last there is a next
pub next_in : (m k : ℕ) → T (inside m k) → (k ≡ m → ⊥) → T (inside m (k + 1))
next_in m k x ne = in_inside m (k + 1) (omega arith) (omega (arith, inside_high m k x, ne))

-- the database whose ready arrives, and the server that cleans, are named
pub ready_names : (n : Counts) (e : Event) → Follows n e → e.kind ≡ 7 → T (inside n.databases e.database)
ready_names n e follows is = (at_kind n e 7 is follows.fits).1.1.1.0

pub clean_names : (n : Counts) (e : Event) → Follows n e → e.kind ≡ 11 → T (inside n.servers e.server)
clean_names n e follows is = (at_kind n e 11 is follows.fits).1.1.0

-- of what is asked of a party, the rule of a ready takes the ready cell, that of a clean the mask of the suspected, and no other takes any
pub row_rule_asks : (n : Counts) (e : Event) (asked isReady suspected : ℕ) (r : Row) → (e.kind ≡ 7 → asked ≡ isReady) → (e.kind ≡ 11 → asked ≡ suspected)
    → row_rule n e asked asked r ≡ row_rule n e isReady suspected r
row_rule_asks n e asked isReady suspected r as_ready as_suspected =
    let i = e.server in
    let d = e.database in
    let k = e.kind in
    let decision = cond (eqb k 12) (decide_rule i d r) (ack_rule i d r) in
    let cleaning = same_where (eqb k 11) (clean_rule i asked r) (clean_rule i suspected r) decision (λ t. ap (λ x. clean_rule i x r) (as_suspected (eqb→eq k 11 t))) in
    let writing = ap (cond (eqb k 8) (write_rule n.databases i r)) cleaning in
    let readiness = same_where (eqb k 7) (ready_rule i d asked r) (ready_rule i d isReady r) _ (λ t. ap (λ x. ready_rule i d x r) (as_ready (eqb→eq k 7 t))) in
    ap (λ x. cond (eqb k 3) (request_rule i r) (cond (eqb k 4) (compute_rule i e.value r) (cond (eqb k 5) (prepare_rule d e.value r) (cond (eqb k 6) (vote_rule i d r) x))))
    (readiness ∙ ap (cond (eqb k 7) (ready_rule i d isReady r)) writing)
  where
    same_where : (b : Bool) (x y z : RowRule) → (T b → x ≡ y) → cond b x z ≡ cond b y z
    same_where true x y z f = f tt
    same_where false x y z f = refl

-- every rule of a row writes cells that there are, if its server is one
pub row_rule_exists : (n : Counts) (e : Event) (isReady suspected : ℕ) → of_row e.kind ≡ true → every (fields n e) ≡ true → (r : Row) → FieldsExist n (row_rule n e isReady suspected r).writes
row_rule_exists n e isReady suspected of_rows fit r =
    let i = e.server in
    let d = e.database in
    let k = e.kind in
    let decision = cond (eqb k 12) (decide_rule i d r) (ack_rule i d r) in
    let cleaning = cond (eqb k 11) (clean_rule i suspected r) decision in
    let writing = cond (eqb k 8) (write_rule n.databases i r) cleaning in
    let readiness = cond (eqb k 7) (ready_rule i d isReady r) writing in
    let voting = cond (eqb k 6) (vote_rule i d r) readiness in
    let preparing = cond (eqb k 5) (prepare_rule d e.value r) voting in
    let computing = cond (eqb k 4) (compute_rule i e.value r) preparing in
    by_cond P (eqb k 3) (request_rule i r) computing (λ t. (tt, tt)) (λ a.
    by_cond P (eqb k 4) (compute_rule i e.value r) preparing (λ t. (tt, tt)) (λ b.
    by_cond P (eqb k 5) (prepare_rule d e.value r) voting (λ t. (tt, (tt, tt))) (λ c.
    by_cond P (eqb k 6) (vote_rule i d r) readiness (λ t. (tt, (tt, tt))) (λ d'.
    by_cond P (eqb k 7) (ready_rule i d isReady r) writing (λ t. (tt, (tt, tt))) (λ e'.
    by_cond P (eqb k 8) (write_rule n.databases i r) cleaning (λ t. (tt, (tt, (tt, (tt, tt))))) (λ f.
    by_cond P (eqb k 11) (clean_rule i suspected r) decision (λ t. (tt, (tt, (tt, tt)))) (λ g.
    by_cond P (eqb k 12) (decide_rule i d r) (ack_rule i d r) (λ t. (tt, (tt, ((at_kind n e 12 (eqb→eq k 12 t) fit).1.1.0, tt)))) (λ h.
    by_eq k 13 (λ is. ((at_kind n e 13 is fit).1.1.0, tt))
    (λ other. absurd (no_row k (differs k 3 a) (differs k 4 b) (differs k 5 c) (differs k 6 d') (differs k 7 e') (differs k 8 f) (differs k 11 g) (differs k 12 h) other of_rows))))))))))
  where
    P : RowRule → Type 0
    P rule = FieldsExist n rule.writes

    differs : (a b : ℕ) → T (not (eqb a b)) → a ≡ b → ⊥
    differs a b t is = T_not (eqb a b) t (rw is (eqb_refl b))

-- the part of a range of places is as long as it says
pub range_width : (start end first width : ℕ) → start ≡ first → end ≡ first + width → end - start ≡ width
range_width start end first width e f = omega (arith, e, f)

-- ---- rule 14

-- what the lent row holds is what the state holds of the result
module _ (n : Counts) (t : List ℕ) (c k : ℕ) (long : length t ≡ table_length n) (client_in : T (inside n.clients c)) (attempt_in : T (inside n.attempts k))
    (start width : ℕ) (start_is : start ≡ row_start n c k) (width_is : width ≡ row_length n) where
  pub lent_cell : (f : Field) → row_view n (part start width t) f ≡ view n t (row c k f)
  lent_cell f = rw (start_is, width_is) (ap (λ (r : Row). r f) (sym (row_view_lem n t c k long client_in attempt_in)))

  pub result_number : (i : ℕ) → result_given n i (row_view n (part start width t)) ≡ rule_number (result_rule n (view n t) c k i)
  result_number i = ap₂ (λ (o m : ℕ). cond (every (ltb 0 o ∷ has_all n.databases m ∷ [])) 0 6) (lent_cell outcome) (lent_cell (known i))

  -- the decision that was read, by cases
  module _ (d : Option Decision) (read : held (row_view n (part start width t) outcome) (row_view n (part start width t) value) ≡ d) where
    pub read_none : d ≡ None → view n t (row c k outcome) ≡ 1 → ⊥
    read_none e one = omega (arith, none_held (row_view n (part start width t) outcome) (row_view n (part start width t) value) (read ∙ e), lent_cell outcome)

    pub read_abort : d ≡ Some Abort → view n t (row c k outcome) ≡ 1 → ⊥
    read_abort e one = abort_held (row_view n (part start width t) outcome) (row_view n (part start width t) value) (read ∙ e) (lent_cell outcome ∙ one)

    pub read_commit : (v : ℕ) → d ≡ Some (Commit v) → (view n t (row c k outcome) ≡ 1) × (view n t (row c k value) ≡ v)
    read_commit v e =
        let h = commit_held (row_view n (part start width t) outcome) (row_view n (part start width t) value) v (read ∙ e) in
        (sym (lent_cell outcome) ∙ h.0, sym (lent_cell value) ∙ h.1)

-- the next attempt: the client's cell, and then the call
pub advanced : (n : Counts) (t : List ℕ) (long : length t ≡ table_length n) (c k at : ℕ) (x : T (inside n.clients c)) (e : at ≡ place n (client_up c)) (q : List ℕ)
    → (let u = set t (at + 2) (k + 1) in q ≡ set_all n u (in_row c (k + 1) (calls (row_of (view n u) c (k + 1)))))
    → q ≡ set_all n t ((attempt c, suc k) ∷ in_row c (suc k) (calls (row_of (view n t) c (suc k))))
advanced n t long c k at x e q f =
    f ∙ after_parties n t (set t (at + 2) (k + 1)) long ((attempt c, k + 1) ∷ []) (x, tt) (ap (λ p. set t p (k + 1)) (attempt_at n t long c at x e)) c (k + 1) calls refl
    ∙ ap (λ (j : ℕ). set_all n t ((attempt c, j) ∷ in_row c j (calls (row_of (view n t) c j)))) (add-one k)
