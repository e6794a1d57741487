-- What is final: what a state says for good, beside any state that accepted events lead to from it.
use Rattle.std.specs.Prelude.{◌≡◌, ℕ, ◌<◌, T}
use Rattle.masks.specs.Mask.{has}
use Rattle.protocol.specs.Cells.{State, phase, attempt, request, delivered, row, owner, outcome, value, decided, committed}

module _ (s later : State) where
  -- a client's phase, attempt, request and delivered value are the same
  abbrev pub SameClient : ℕ → Type 0
  SameClient c =
      (later (phase c) ≡ s (phase c))
      × (later (attempt c) ≡ s (attempt c))
      × (later (request c) ≡ s (request c))
      × (later (delivered c) ≡ s (delivered c))

  pub record Final : Type 0 where
    -- a database that has decided a result has decided it for good, and as it did: a commit stays a commit, and an abort an abort
    pub decided_stays : (c k d : ℕ) → T (has (s (row c k decided)) d)
        → T (has (later (row c k decided)) d) × (has (later (row c k committed)) d ≡ has (s (row c k committed)) d)
    -- the registers: a claim stays, and so do outcome and value
    pub owner_stays : (c k : ℕ) → 0 < s (row c k owner) → later (row c k owner) ≡ s (row c k owner)
    pub outcome_stays : (c k : ℕ) → 0 < s (row c k outcome)
        → (later (row c k outcome) ≡ s (row c k outcome)) × (later (row c k value) ≡ s (row c k value))
    -- a client that was served stays so, with its attempt, its request and the value delivered; so does one that has given up
    pub served_stays : (c : ℕ) → s (phase c) ≡ 2 → SameClient c
    pub given_up_stays : (c : ℕ) → s (phase c) ≡ 3 → SameClient c
