-- No two names share a cell, and all cells lie inside the table, behind its header.
use mathlib.Core.Path.{◌≡◌, refl, sym, ◌∙◌}
use mathlib.Core.Bool.{◌&&◌}
use Prim.Native.Nat.{ℕ, suc, ◌+◌, ◌-◌, ◌*◌, ◌≤◌, ◌<◌}
use native.Mathlib.Nat.{mul-le-mul, mul-le-mul_right, suc-mul}
use native.Mathlib.Omega.{arith}
use lib.Arith.{digits_lt}
use lib.Dec.{T}
use Rattle.lists.specs.Tests.{every, inside}
use Rattle.lists.proofs.Choice.{and_left, and_right, inside_low, inside_high, every_all}
use Rattle.lists.proofs.Parts.{digits_same}
use Rattle.protocol.specs.declared.Counts.{Counts}
use Rattle.protocol.specs.Cells.{Field, owner, outcome, value, computed, sent, voted, voted_yes, heard, heard_yes, written, terminating, decided, committed, acked, known, field_tag, field_server, same_field, field_exists}
use Rattle.protocol.specs.Cells.{Name, server_up, suspects, database_up, ready, client_up, phase, attempt, request, delivered, row, tag, server_of, attempt_of, party_of, same, exists}
use Rattle.protocol.specs.Numbers.{count_tests}
use Rattle.protocol.proofs.Names.{equal_same, equal_same_field}
use Rattle.table.specs.Layout.{slot, row_length, header_length, servers_start, databases_start, clients_start, rows_start, rows_before, row_start, place, table_length}

-- ---- the cells of a row: thirteen fixed ones, then two blocks of one for each server

data Slot (n : Counts) (t i p : ℕ) : Type 0 where
  fixed : t ≤ 12 → i ≡ 0 → p ≡ t → Slot n t i p
  sent_to : t ≡ 13 → 1 ≤ i → i ≤ n.servers → p ≡ 12 + i → Slot n t i p
  known_by : t ≡ 14 → 1 ≤ i → i ≤ n.servers → p ≡ 12 + n.servers + i → Slot n t i p

slot_is : (n : Counts) (f : Field) → T (field_exists n f) → Slot n (field_tag f) (field_server f) (slot n f)
slot_is n owner x = fixed (omega arith) refl refl
slot_is n outcome x = fixed (omega arith) refl refl
slot_is n value x = fixed (omega arith) refl refl
slot_is n computed x = fixed (omega arith) refl refl
slot_is n sent x = fixed (omega arith) refl refl
slot_is n voted x = fixed (omega arith) refl refl
slot_is n voted_yes x = fixed (omega arith) refl refl
slot_is n heard x = fixed (omega arith) refl refl
slot_is n heard_yes x = fixed (omega arith) refl refl
slot_is n written x = fixed (omega arith) refl refl
slot_is n terminating x = fixed (omega arith) refl refl
slot_is n decided x = fixed (omega arith) refl refl
slot_is n committed x = fixed (omega arith) refl refl
slot_is n (acked i) x = sent_to refl (inside_low n.servers i x) (inside_high n.servers i x) refl
slot_is n (known i) x = known_by refl (inside_low n.servers i x) (inside_high n.servers i x) refl

slots_differ : (n : Counts) (t i p u j q : ℕ) → Slot n t i p → Slot n u j q → p ≡ q → (t ≡ u) × (i ≡ j)
slots_differ n t i p u j q (fixed a b c) (fixed d e f) g = omega arith
slots_differ n t i p u j q (fixed a b c) (sent_to d l h f) g = omega arith
slots_differ n t i p u j q (fixed a b c) (known_by d l h f) g = omega arith
slots_differ n t i p u j q (sent_to a l h c) (fixed d e f) g = omega arith
slots_differ n t i p u j q (sent_to a l h c) (sent_to d m k f) g = omega arith
slots_differ n t i p u j q (sent_to a l h c) (known_by d m k f) g = omega arith
slots_differ n t i p u j q (known_by a l h c) (fixed d e f) g = omega arith
slots_differ n t i p u j q (known_by a l h c) (sent_to d m k f) g = omega arith
slots_differ n t i p u j q (known_by a l h c) (known_by d m k f) g = omega arith

slot_below : (n : Counts) (t i p : ℕ) → Slot n t i p → p < row_length n
slot_below n t i p (fixed a b c) = omega arith
slot_below n t i p (sent_to a l h c) = omega arith
slot_below n t i p (known_by a l h c) = omega arith

slot_tag : (n : Counts) (t i p : ℕ) → Slot n t i p → t ≤ 14
slot_tag n t i p (fixed a b c) = omega arith
slot_tag n t i p (sent_to a l h c) = omega arith
slot_tag n t i p (known_by a l h c) = omega arith

pub slot_inside : (n : Counts) (f : Field) → T (field_exists n f) → slot n f < row_length n
slot_inside n f x = slot_below n (field_tag f) (field_server f) (slot n f) (slot_is n f x)

pub slot_same : (n : Counts) (f g : Field) → T (field_exists n f) → T (field_exists n g) → slot n f ≡ slot n g → T (same_field f g)
slot_same n f g x y e =
    let d = slots_differ n (field_tag f) (field_server f) (slot n f) (field_tag g) (field_server g) (slot n g) (slot_is n f x) (slot_is n g y) e in
    equal_same_field f g d.0 d.1

-- ---- rows: each result has its own, inside the table

module _ (n : Counts) (c k : ℕ) (cIn : T (inside n.clients c)) (kIn : T (inside n.attempts k)) where
  pub rows_before_lem : rows_before n c k < n.clients * n.attempts
  unfolding rows_before
  rows_before_lem =
      let c1 = inside_low n.clients c cIn in
      let cC = inside_high n.clients c cIn in
      let k1 = inside_low n.attempts k kIn in
      let kN = inside_high n.attempts k kIn in
      digits_lt {q = c - 1} {m = n.clients} (omega arith) (omega arith)

  pub row_start_lem : rows_start n ≤ row_start n c k
  unfolding row_start
  row_start_lem = omega arith

  pub row_end : row_start n c k + row_length n ≤ table_length n
  unfolding row_start table_length
  row_end =
      let p : suc (rows_before n c k) * row_length n ≤ n.clients * n.attempts * row_length n = mul-le-mul_right (row_length n) rows_before_lem in
      omega (arith, suc-mul (rows_before n c k) (row_length n))

module _ (n : Counts) (c k x y : ℕ) (cIn : T (inside n.clients c)) (kIn : T (inside n.attempts k)) (xIn : T (inside n.clients x)) (yIn : T (inside n.attempts y)) where
  rows_differ : rows_before n c k ≡ rows_before n x y → (c ≡ x) × (k ≡ y)
  unfolding rows_before
  rows_differ e =
      let c1 = inside_low n.clients c cIn in
      let x1 = inside_low n.clients x xIn in
      let k1 = inside_low n.attempts k kIn in
      let kN = inside_high n.attempts k kIn in
      let y1 = inside_low n.attempts y yIn in
      let yN = inside_high n.attempts y yIn in
      let d = digits_same n.attempts (c - 1) (x - 1) (k - 1) (y - 1) (omega arith) (omega arith) e in
      omega (arith, d)

  cells_differ : (p q : ℕ) → p < row_length n → q < row_length n → row_start n c k + p ≡ row_start n x y + q → (c ≡ x) × (k ≡ y) × (p ≡ q)
  unfolding row_start
  cells_differ p q l h e =
      let d = digits_same (row_length n) (rows_before n c k) (rows_before n x y) p q l h (omega arith) in
      let r = rows_differ d.0 in
      (r.0, r.1, d.1)

-- ---- the cells of the table: of a server, a database, a client or a row. `t i k c` is what tells names apart

data At (n : Counts) (t i k c p : ℕ) : Type 0 where
  of_server : 15 ≤ t → t ≤ 16 → i ≡ 0 → k ≡ 0 → 1 ≤ c → c ≤ n.servers → p + 15 ≡ servers_start n + 2 * (c - 1) + t → At n t i k c p
  of_database : 17 ≤ t → t ≤ 18 → i ≡ 0 → k ≡ 0 → 1 ≤ c → c ≤ n.databases → p + 17 ≡ databases_start n + 2 * (c - 1) + t → At n t i k c p
  of_client : 19 ≤ t → t ≤ 23 → i ≡ 0 → k ≡ 0 → 1 ≤ c → c ≤ n.clients → p + 19 ≡ clients_start n + 5 * (c - 1) + t → At n t i k c p
  of_row : (q : ℕ) → Slot n t i q → T (inside n.clients c) → T (inside n.attempts k) → p ≡ row_start n c k + q → At n t i k c p

place_is : (n : Counts) (m : Name) → T (exists n m) → At n (tag m) (server_of m) (attempt_of m) (party_of m) (place n m)
unfolding place
place_is n (server_up i) x = of_server (omega arith) (omega arith) refl refl (inside_low n.servers i x) (inside_high n.servers i x) (omega arith)
place_is n (suspects i) x = of_server (omega arith) (omega arith) refl refl (inside_low n.servers i x) (inside_high n.servers i x) (omega arith)
place_is n (database_up d) x = of_database (omega arith) (omega arith) refl refl (inside_low n.databases d x) (inside_high n.databases d x) (omega arith)
place_is n (ready d) x = of_database (omega arith) (omega arith) refl refl (inside_low n.databases d x) (inside_high n.databases d x) (omega arith)
place_is n (client_up c) x = of_client (omega arith) (omega arith) refl refl (inside_low n.clients c x) (inside_high n.clients c x) (omega arith)
place_is n (phase c) x = of_client (omega arith) (omega arith) refl refl (inside_low n.clients c x) (inside_high n.clients c x) (omega arith)
place_is n (attempt c) x = of_client (omega arith) (omega arith) refl refl (inside_low n.clients c x) (inside_high n.clients c x) (omega arith)
place_is n (request c) x = of_client (omega arith) (omega arith) refl refl (inside_low n.clients c x) (inside_high n.clients c x) (omega arith)
place_is n (delivered c) x = of_client (omega arith) (omega arith) refl refl (inside_low n.clients c x) (inside_high n.clients c x) (omega arith)
place_is n (row c k f) x =
    let rest = and_right (inside n.clients c) (inside n.attempts k && field_exists n f) x in
    of_row (slot n f) (slot_is n f (and_right (inside n.attempts k) (field_exists n f) rest)) (and_left (inside n.clients c) (inside n.attempts k && field_exists n f) x)
    (and_left (inside n.attempts k) (field_exists n f) rest) refl

module _ (n : Counts) (t i k c p u j l x q : ℕ) where
  places_differ : At n t i k c p → At n u j l x q → p ≡ q → (t ≡ u) × (i ≡ j) × (k ≡ l) × (c ≡ x)
  places_differ (of_server a b d e f g h) (of_server a' b' d' e' f' g' h') z = omega arith
  places_differ (of_server a b d e f g h) (of_database a' b' d' e' f' g' h') z = omega arith
  places_differ (of_server a b d e f g h) (of_client a' b' d' e' f' g' h') z = omega arith
  places_differ (of_server a b d e f g h) (of_row r s cIn kIn e') z = absurd (omega (arith, row_start_lem n x l cIn kIn))
  places_differ (of_database a b d e f g h) (of_server a' b' d' e' f' g' h') z = omega arith
  places_differ (of_database a b d e f g h) (of_database a' b' d' e' f' g' h') z = omega arith
  places_differ (of_database a b d e f g h) (of_client a' b' d' e' f' g' h') z = omega arith
  places_differ (of_database a b d e f g h) (of_row r s cIn kIn e') z = absurd (omega (arith, row_start_lem n x l cIn kIn))
  places_differ (of_client a b d e f g h) (of_server a' b' d' e' f' g' h') z = omega arith
  places_differ (of_client a b d e f g h) (of_database a' b' d' e' f' g' h') z = omega arith
  places_differ (of_client a b d e f g h) (of_client a' b' d' e' f' g' h') z = omega arith
  places_differ (of_client a b d e f g h) (of_row r s cIn kIn e') z = absurd (omega (arith, row_start_lem n x l cIn kIn))
  places_differ (of_row r s cIn kIn e) (of_server a b d e' f g h) z = absurd (omega (arith, row_start_lem n c k cIn kIn))
  places_differ (of_row r s cIn kIn e) (of_database a b d e' f g h) z = absurd (omega (arith, row_start_lem n c k cIn kIn))
  places_differ (of_row r s cIn kIn e) (of_client a b d e' f g h) z = absurd (omega (arith, row_start_lem n c k cIn kIn))
  places_differ (of_row r s cIn kIn e) (of_row r' s' xIn lIn e') z =
      let d = cells_differ n c k x l cIn kIn xIn lIn r r' (slot_below n t i r s) (slot_below n u j r' s') (sym e ∙ z ∙ e') in
      let b = slots_differ n t i r u j r' s s' d.2 in
      (b.0, b.1, d.1, d.0)

place_in : (n : Counts) (t i k c p : ℕ) → At n t i k c p → (header_length ≤ p) × (p < table_length n)
unfolding table_length
place_in n t i k c p (of_server a b d e f g h) = omega arith
place_in n t i k c p (of_database a b d e f g h) = omega arith
place_in n t i k c p (of_client a b d e f g h) = omega arith
place_in n t i k c p (of_row q s cIn kIn e) = omega (arith, row_start_lem n c k cIn kIn, row_end n c k cIn kIn, slot_below n t i q s)

-- ---- the laws

module _ (n : Counts) (m : Name) (x : T (exists n m)) where
  pub place_behind : header_length ≤ place n m
  place_behind = (place_in n (tag m) (server_of m) (attempt_of m) (party_of m) (place n m) (place_is n m x)).0

  pub place_inside : place n m < table_length n
  place_inside = (place_in n (tag m) (server_of m) (attempt_of m) (party_of m) (place n m) (place_is n m x)).1

  pub place_same : (k : Name) → T (exists n k) → place n m ≡ place n k → T (same m k)
  place_same k y e =
      let d = places_differ n (tag m) (server_of m) (attempt_of m) (party_of m) (place n m) (tag k) (server_of k) (attempt_of k) (party_of k) (place n k)
      (place_is n m x) (place_is n k y) e in
      equal_same m k d.0 d.1 d.2 d.3

-- the largest setup, 8 8 8 16, has 3,788 cells, and no other has more
pub largest_length : table_length (record { clients = 8; servers = 8; databases = 8; attempts = 16 }) ≡ 3788
unfolding table_length
largest_length = refl

pub length_most : (n : Counts) → T (every (count_tests n)) → table_length n ≤ 3788
unfolding table_length
length_most n counts =
    let tests = every_all (count_tests n) counts in
    let cC = inside_high 8 n.clients tests.0 in
    let aA = inside_high 8 n.servers tests.1.0 in
    let dD = inside_high 8 n.databases tests.1.1.0 in
    let kN = inside_high 16 n.attempts tests.1.1.1.0 in
    let p : n.clients * n.attempts ≤ 8 * 16 = mul-le-mul cC kN in
    let w : row_length n ≤ 29 = omega arith in
    let q : n.clients * n.attempts * row_length n ≤ 128 * 29 = mul-le-mul p w in
    omega arith
