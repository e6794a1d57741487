-- What the registers promise: the first write stays, and every answer says what the register then holds.
-- The crates above cite these laws and never open a register.
use mathlib.Core.Bool.{Bool, not, cond}
use mathlib.Core.List.{List}
use mathlib.Core.Path.{◌≡◌, refl, sym, ap, ap₂, ◌∙◌}
use Prim.Native.Nat.{ℕ, zero, suc, ◌<◌}
use native.Mathlib.Omega.{arith}
use borrow.Author.Tests.{eq-eqb, ne_eqb, lt-ltb}
use lib.Dec.{T, eqb, ltb, eqb→eq}
use lib.ListN.{length, get_or, set, length-set}
use lib.Seq.{get_or-set_same, get_or-set_other, set-get_or}
use Rattle.lists.proofs.Choice.{by_cond, by_both, by_eq}
use Rattle.std.specs.Prelude.{Option, None, Some, Result, Ok, Err, is_some}
use Rattle.registers.specs.declared.Decision.{Decision}
use Rattle.registers.specs.declared.Decision.TheVariants.{Commit, Abort}
use Rattle.registers.specs.Register.{claimed, decision_in, held, outcome_of, value_of, offered_outcome, offered_value, Claiming, claiming, Offering, offering, holding, owning}

-- ---- one offer, as the protocol sees it: an outcome and its value

pub offer_once : (o : ℕ) (d : Option Decision) → 0 < o → offered_outcome o d ≡ o
unfolding offered_outcome
offer_once o d h = ap (λ (b : Bool). cond b (outcome_of d) o) (ne_eqb o 0 (λ e. omega arith))

pub offer_keeps_value : (o v : ℕ) (d : Option Decision) → 0 < o → offered_value o v d ≡ v
unfolding offered_value
offer_keeps_value o v d h = ap (λ (b : Bool). cond b (value_of d) v) (ne_eqb o 0 (λ e. omega arith))

pub offer_first : (o : ℕ) (d : Option Decision) → o ≡ 0 → offered_outcome o d ≡ outcome_of d
unfolding offered_outcome
offer_first o d e = rw (eq-eqb o 0 e)

pub offer_first_value : (o v : ℕ) (d : Option Decision) → o ≡ 0 → offered_value o v d ≡ value_of d
unfolding offered_value
offer_first_value o v d e = rw (eq-eqb o 0 e)

written : (o : ℕ) → T (not (eqb o 0)) → 0 < o
written zero t = absurd t
written (suc o) t = omega arith

pub offer_elim : (P : ℕ → ℕ → Type 0) (outcome value : ℕ) (d : Option Decision)
    → (outcome ≡ 0 → P (outcome_of d) (value_of d)) → (0 < outcome → P outcome value)
    → P (offered_outcome outcome d) (offered_value outcome value d)
unfolding offered_outcome offered_value
offer_elim P outcome value d f g =
    by_both (λ b. P (cond b (outcome_of d) outcome) (cond b (value_of d) value)) (eqb outcome 0)
    (λ t. f (eqb→eq outcome 0 t)) (λ t. g (written outcome t))

-- ---- one claim, as the protocol sees it: an owner

pub claim_once : (owner server : ℕ) → 0 < owner → claimed owner server ≡ owner
unfolding claimed
claim_once owner server h = ap (λ (b : Bool). cond b server owner) (ne_eqb owner 0 (λ e. omega arith))

pub claim_first : (owner server : ℕ) → owner ≡ 0 → claimed owner server ≡ server
unfolding claimed
claim_first owner server e = rw (eq-eqb owner 0 e)

pub claim_elim : (P : ℕ → Type 0) (owner server : ℕ) → (owner ≡ 0 → P server) → (0 < owner → P owner) → P (claimed owner server)
unfolding claimed
claim_elim P owner server f g =
    by_cond P (eqb owner 0) server owner (λ t. f (eqb→eq owner 0 t)) (λ t. g (written owner t))

-- ---- what the cells of a decision hold

pub held_cells : (d : Option Decision) → held (outcome_of d) (value_of d) ≡ d
unfolding held
held_cells None = refl
held_cells (Some (Commit value)) = refl
held_cells (Some Abort) = refl

pub held_none : (outcome value : ℕ) → outcome ≡ 0 → held outcome value ≡ None
unfolding held
held_none outcome value e = rw (eq-eqb outcome 0 e)

pub none_held : (outcome value : ℕ) → held outcome value ≡ None → outcome ≡ 0
unfolding held
none_held outcome value =
    by_both (λ b. cond b None (Some (decision_in outcome value)) ≡ None → outcome ≡ 0) (eqb outcome 0)
    (λ t e. eqb→eq outcome 0 t)
    (λ t e. let z : ◌≡◌ {A = ℕ} 0 1 = cc in absurd (omega arith))

pub held_decision : (outcome value : ℕ) → (outcome ≡ 0 → ⊥) → held outcome value ≡ Some (decision_in outcome value)
unfolding held
held_decision outcome value n = rw (ne_eqb outcome 0 n)

-- ---- the register of decisions

module _ (cells : List ℕ) (d : Option Decision) where
  pub offering_length : length (offering cells d).cells ≡ length cells
  unfolding offering
  offering_length = simp length-set

  -- an empty register takes the offer

  pub first_taken : get_or cells 0 0 ≡ 0 → (offering cells d).answer ≡ Ok d
  unfolding offering
  first_taken e = rw (eq-eqb (get_or cells 0 0) 0 e)

  pub first_cells : get_or cells 0 0 ≡ 0 → (offering cells d).cells ≡ set (set cells 0 (outcome_of d)) 1 (value_of d)
  unfolding offering
  first_cells e =
      ap₂ (λ (o v : ℕ). set (set cells 0 o) 1 v)
      (offer_first (get_or cells 0 0) d e) (offer_first_value (get_or cells 0 0) (get_or cells 1 0) d e)

  pub first_written : length cells ≡ 2 → get_or cells 0 0 ≡ 0
      → held (get_or (offering cells d).cells 0 0) (get_or (offering cells d).cells 1 0) ≡ d
  first_written size e =
      let outcome : get_or (offering cells d).cells 0 0 ≡ outcome_of d =
      ap (λ (l : List ℕ). get_or l 0 0) (first_cells e)
      ∙ get_or-set_other (set cells 0 (outcome_of d)) 1 0 (value_of d) 0 (λ q. omega arith)
      ∙ get_or-set_same cells 0 (outcome_of d) 0 (omega arith) in
      let value : get_or (offering cells d).cells 1 0 ≡ value_of d =
      ap (λ (l : List ℕ). get_or l 1 0) (first_cells e)
      ∙ get_or-set_same (set cells 0 (outcome_of d)) 1 (value_of d) 0 (simp length-set (omega arith)) in
      ap₂ held outcome value ∙ held_cells d

  -- a written register never changes, nor does a stray value beside the outcome

  pub written_stays : (get_or cells 0 0 ≡ 0 → ⊥) → (offering cells d).cells ≡ cells
  unfolding offering offered_outcome offered_value
  written_stays n =
      rw (ne_eqb (get_or cells 0 0) 0 n)
      (ap (λ (l : List ℕ). set l 1 (get_or cells 1 0)) (set-get_or cells 0 0) ∙ set-get_or cells 1 0)

  pub written_answer : (get_or cells 0 0 ≡ 0 → ⊥) → (offering cells d).answer ≡ Err (decision_in (get_or cells 0 0) (get_or cells 1 0))
  unfolding offering
  written_answer n = rw (ne_eqb (get_or cells 0 0) 0 n)

  -- the answer says what the register holds after the offer
  pub answer_holds : length cells ≡ 2
      → held (get_or (offering cells d).cells 0 0) (get_or (offering cells d).cells 1 0) ≡ holding (offering cells d).answer
  answer_holds size =
      by_eq (get_or cells 0 0) 0
      (λ e. first_written size e ∙ ap holding (sym (first_taken e)))
      (λ n. ap (λ (l : List ℕ). held (get_or l 0 0) (get_or l 1 0)) (written_stays n)
      ∙ held_decision (get_or cells 0 0) (get_or cells 1 0) n ∙ ap holding (sym (written_answer n)))

-- ---- the register of claims

module _ (cells : List ℕ) (server : ℕ) where
  pub claiming_length : length (claiming cells server).cells ≡ length cells
  unfolding claiming
  claiming_length = simp length-set

  -- a register that nobody owns takes the claim

  pub claim_taken : get_or cells 0 0 ≡ 0 → (claiming cells server).answer ≡ Ok server
  unfolding claiming
  claim_taken e = rw (eq-eqb (get_or cells 0 0) 0 e)

  pub claim_cells : get_or cells 0 0 ≡ 0 → (claiming cells server).cells ≡ set cells 0 server
  unfolding claiming
  claim_cells e = ap (set cells 0) (claim_first (get_or cells 0 0) server e)

  pub claim_written : length cells ≡ 1 → get_or cells 0 0 ≡ 0 → get_or (claiming cells server).cells 0 0 ≡ server
  claim_written size e =
      ap (λ (l : List ℕ). get_or l 0 0) (claim_cells e) ∙ get_or-set_same cells 0 server 0 (omega arith)

  -- an owned register never changes

  pub claim_stays : (get_or cells 0 0 ≡ 0 → ⊥) → (claiming cells server).cells ≡ cells
  unfolding claiming claimed
  claim_stays n = rw (ne_eqb (get_or cells 0 0) 0 n) (set-get_or cells 0 0)

  pub claim_answer : (get_or cells 0 0 ≡ 0 → ⊥) → (claiming cells server).answer ≡ Err (get_or cells 0 0)
  unfolding claiming
  claim_answer n = rw (ne_eqb (get_or cells 0 0) 0 n)

  -- the answer says who owns the register after the claim
  pub claim_holds : length cells ≡ 1 → get_or (claiming cells server).cells 0 0 ≡ owning (claiming cells server).answer
  claim_holds size =
      by_eq (get_or cells 0 0) 0
      (λ e. claim_written size e ∙ ap owning (sym (claim_taken e)))
      (λ n. ap (λ (l : List ℕ). get_or l 0 0) (claim_stays n) ∙ ap owning (sym (claim_answer n)))

-- ---- what the code does, in each of its arms

some_ne_none : (d : Decision) → Some d ≡ None → ⊥
some_ne_none d e = let z : ◌≡◌ {A = ℕ} 0 1 = cc in omega arith

one_some : (d f : Decision) → Some d ≡ Some f → d ≡ f
one_some d f e = cc

pub offer_takes : (cells : List ℕ) (d : Option Decision) → held (get_or cells 0 0) (get_or cells 1 0) ≡ None
    → ◌≡◌ {A = Offering} (record { answer = Ok d; cells = set (set cells 0 (outcome_of d)) 1 (value_of d) }) (offering cells d)
offer_takes cells d e =
    let empty : get_or cells 0 0 ≡ 0 = none_held (get_or cells 0 0) (get_or cells 1 0) e in
    λ i. record { answer = sym (first_taken cells d empty) i; cells = sym (first_cells cells d empty) i }

pub offer_holds : (cells : List ℕ) (d : Option Decision) (holds : Decision) → held (get_or cells 0 0) (get_or cells 1 0) ≡ Some holds
    → ◌≡◌ {A = Offering} (record { answer = Err holds; cells = cells }) (offering cells d)
offer_holds cells d holds e =
    let full : get_or cells 0 0 ≡ 0 → ⊥ = λ q. some_ne_none holds (sym e ∙ held_none (get_or cells 0 0) (get_or cells 1 0) q) in
    let same : decision_in (get_or cells 0 0) (get_or cells 1 0) ≡ holds = one_some _ _ (sym (held_decision (get_or cells 0 0) (get_or cells 1 0) full) ∙ e) in
    λ i. record {
      answer = (ap Err (sym same) ∙ sym (written_answer cells d full)) i;
      cells = sym (written_stays cells d full) i;
    }

pub claim_takes : (cells : List ℕ) (server : ℕ) → get_or cells 0 0 ≡ 0
    → ◌≡◌ {A = Claiming} (record { answer = Ok server; cells = set cells 0 server }) (claiming cells server)
claim_takes cells server e =
    λ i. record { answer = sym (claim_taken cells server e) i; cells = sym (claim_cells cells server e) i }

pub claim_refuses : (cells : List ℕ) (server : ℕ) → (get_or cells 0 0 ≡ 0 → ⊥)
    → ◌≡◌ {A = Claiming} (record { answer = Err (get_or cells 0 0); cells = cells }) (claiming cells server)
claim_refuses cells server n =
    λ i. record { answer = sym (claim_answer cells server n) i; cells = sym (claim_stays cells server n) i }

-- ---- whatever the register held: its cells after a write, and that whoever offers a decision is answered one

pub offered_cells : (cells : List ℕ) (d : Option Decision) → (offering cells d).cells
    ≡ set (set cells 0 (offered_outcome (get_or cells 0 0) d)) 1 (offered_value (get_or cells 0 0) (get_or cells 1 0) d)
unfolding offering
offered_cells cells d = refl

pub claimed_cells : (cells : List ℕ) (server : ℕ) → (claiming cells server).cells ≡ set cells 0 (claimed (get_or cells 0 0) server)
unfolding claiming
claimed_cells cells server = refl

pub answer_decides : (cells : List ℕ) (d : Option Decision) → (d ≡ None → ⊥) → holding (offering cells d).answer ≡ None → ⊥
answer_decides cells d some e = by_eq (get_or cells 0 0) 0
    (λ empty. some (ap holding (sym (first_taken cells d empty)) ∙ e))
    (λ full. some_ne_none _ (ap holding (sym (written_answer cells d full)) ∙ e))

-- what the register took is what was offered
pub taken_offered : (cells : List ℕ) (d taken : Option Decision) → (offering cells d).answer ≡ Ok taken → taken ≡ d
taken_offered cells d taken e = by_eq (get_or cells 0 0) 0
    (λ empty. let same : ◌≡◌ {A = Result (Option Decision) Decision} (Ok taken) (Ok d) = sym e ∙ first_taken cells d empty in cc)
    (λ full. let same = sym e ∙ written_answer cells d full in let z : ◌≡◌ {A = ℕ} 0 1 = cc in absurd (omega arith))

-- a register that holds a decision has an outcome that is not 0
pub held_outcome : (outcome value : ℕ) → ltb 0 (outcome_of (held outcome value)) ≡ ltb 0 outcome
unfolding held
held_outcome zero value = refl
held_outcome (suc zero) value = refl
held_outcome (suc (suc outcome)) value =
    let o = suc (suc outcome) in
    rw (ne_eqb o 0 (λ e. omega arith), ne_eqb o 1 (λ e. omega arith)) (sym (lt-ltb 0 o (omega arith)))

pub held_some : (outcome value : ℕ) → is_some (held outcome value) ≡ ltb 0 outcome
unfolding held
held_some zero value = refl
held_some (suc outcome) value = rw (ne_eqb (suc outcome) 0 (λ e. omega arith)) (sym (lt-ltb 0 (suc outcome) (omega arith)))

-- which cells hold which decision
pub commit_held : (outcome value held-value : ℕ) → held outcome value ≡ Some (Commit held-value) → (outcome ≡ 1) × (value ≡ held-value)
unfolding held
commit_held zero value w e = let z : ◌≡◌ {A = ℕ} 0 1 = cc in absurd (omega arith)
commit_held (suc zero) value w e = (refl, cc)
commit_held (suc (suc outcome)) value w e =
    let o = suc (suc outcome) in
    let f = rw (ne_eqb o 0 (λ q. omega arith), ne_eqb o 1 (λ q. omega arith)) at e in
    let z : ◌≡◌ {A = ℕ} 0 1 = cc in
    absurd (omega arith)

pub abort_held : (outcome value : ℕ) → held outcome value ≡ Some Abort → outcome ≡ 1 → ⊥
unfolding held
abort_held outcome value e one =
    let f = rw (one) at e in
    let z : ◌≡◌ {A = ℕ} 0 1 = cc in
    omega arith
