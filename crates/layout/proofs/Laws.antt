-- The counts in range as tests and as bounds; the cells of each party one after the other, inside the table, and what they hold.
use mathlib.Core.Path.{◌≡◌, refl, sym, ap, ◌∙◌}
use mathlib.Core.List.{List}
use Prim.Native.Nat.{ℕ, ◌+◌, ◌-◌, ◌*◌, ◌≤◌, ◌<◌}
use native.Mathlib.Nat.{mul-le-mul, add-sub_cancel_left}
use native.Mathlib.Omega.{arith}
use lib.Dec.{T}
use lib.ListN.{length, get_or, take, drop}
use Rattle.lists.specs.Parts.{part}
use Rattle.lists.proofs.Parts.{get_or_part}
use Rattle.lists.specs.Tests.{every}
use Rattle.lists.proofs.Choice.{every_all, all_every, in_inside, inside_low, inside_high, T_true}
use Rattle.protocol.specs.declared.Counts.{Counts}
use Rattle.protocol.specs.Cells.{Name, server_up, suspects, database_up, ready, client_up, phase, attempt, request, delivered, exists, row_of}
use Rattle.protocol.specs.Numbers.{count_tests}
use Rattle.table.specs.Layout.{row_length, rows_before, row_start, place, table_length}
use Rattle.table.specs.Table.{view, row_view}
use Rattle.table.proofs.Lent.{lent_view}
use Rattle.table.proofs.Places.{place_inside, rows_before_lem, row_end}
use Rattle.layout.specs.Ranged.{Ranged}

-- ---- the counts

pub tests_ranged : (n : Counts) → T (every (count_tests n)) → Ranged n
tests_ranged n tests =
    let all = every_all (count_tests n) tests in
    record {
      clients1 = inside_low 8 n.clients all.0;
      clients8 = inside_high 8 n.clients all.0;
      servers1 = inside_low 8 n.servers all.1.0;
      servers8 = inside_high 8 n.servers all.1.0;
      databases1 = inside_low 8 n.databases all.1.1.0;
      databases8 = inside_high 8 n.databases all.1.1.0;
      attempts1 = inside_low 16 n.attempts all.1.1.1.0;
      attempts16 = inside_high 16 n.attempts all.1.1.1.0;
    }

pub ranged_tests : (n : Counts) → Ranged n → T (every (count_tests n))
ranged_tests n r =
    all_every (count_tests n) (
      in_inside 8 n.clients r.clients1 r.clients8,
      (
        in_inside 8 n.servers r.servers1 r.servers8,
        (
          in_inside 8 n.databases r.databases1 r.databases8,
          (in_inside 16 n.attempts r.attempts1 r.attempts16, tt),
        ),
      ),
    )

-- ---- the code's products are small

module _ (n : Counts) (r : Ranged n) where
  row_most : row_length n ≤ 29
  row_most = let most = r.servers8 in omega arith

  pub rows_most : n.clients * n.attempts ≤ 128
  rows_most = mul-le-mul r.clients8 r.attempts16

  pub cells_most : n.clients * n.attempts * row_length n ≤ 3712
  cells_most = mul-le-mul rows_most row_most

  module _ (c k : ℕ) (c1 : 1 ≤ c) (cC : c ≤ n.clients) (k1 : 1 ≤ k) (kN : k ≤ n.attempts) where
    pub clients_before : (c - 1) * n.attempts ≤ 128
    clients_before = let low : c - 1 ≤ 8 = omega (arith, r.clients8) in mul-le-mul low r.attempts16

    pub cells_before : rows_before n c k * row_length n ≤ 3712
    cells_before =
        let low = rows_before_lem n c k (in_inside n.clients c c1 cC) (in_inside n.attempts k k1 kN) in
        let most : rows_before n c k ≤ 128 = omega (arith, rows_most) in
        mul-le-mul most row_most

-- ---- a party's cells follow its first one

module _ (n : Counts) (i : ℕ) where
  pub suspects_place : place n (suspects i) ≡ place n (server_up i) + 1
  unfolding place
  suspects_place = refl

  pub ready_place : place n (ready i) ≡ place n (database_up i) + 1
  unfolding place
  ready_place = refl

  pub phase_place : place n (phase i) ≡ place n (client_up i) + 1
  unfolding place
  phase_place = refl

  pub attempt_place : place n (attempt i) ≡ place n (client_up i) + 2
  unfolding place
  attempt_place = refl

  pub request_place : place n (request i) ≡ place n (client_up i) + 3
  unfolding place
  request_place = refl

  pub delivered_place : place n (delivered i) ≡ place n (client_up i) + 4
  unfolding place
  delivered_place = refl

  -- all of them lie inside the table
  pub server_inside : 1 ≤ i → i ≤ n.servers → place n (server_up i) + 2 ≤ table_length n
  server_inside low high = omega (arith, suspects_place, place_inside n (suspects i) (in_inside n.servers i low high))

  pub database_inside : 1 ≤ i → i ≤ n.databases → place n (database_up i) + 2 ≤ table_length n
  database_inside low high = omega (arith, ready_place, place_inside n (ready i) (in_inside n.databases i low high))

  pub client_inside : 1 ≤ i → i ≤ n.clients → place n (client_up i) + 5 ≤ table_length n
  client_inside low high = omega (arith, delivered_place, place_inside n (delivered i) (in_inside n.clients i low high))

-- and so does the row of a result
pub row_inside : (n : Counts) (c k : ℕ) → 1 ≤ c → c ≤ n.clients → 1 ≤ k → k ≤ n.attempts → row_start n c k + row_length n ≤ table_length n
row_inside n c k c1 cC k1 kN = row_end n c k (in_inside n.clients c c1 cC) (in_inside n.attempts k k1 kN)

-- whose end the code can reckon
pub row_end_most : (n : Counts) (r : Ranged n) (c k : ℕ) → 1 ≤ c → c ≤ n.clients → 1 ≤ k → k ≤ n.attempts → row_start n c k + row_length n ≤ 3788
unfolding table_length
row_end_most n r c k c1 cC k1 kN = omega (arith, row_inside n c k c1 cC k1 kN, cells_most n r)

-- ---- what they hold

pub view_cell : (n : Counts) (t : List ℕ) (m : Name) → T (exists n m) → view n t m ≡ get_or t (place n m) 0
unfolding view
view_cell n t m x = rw (T_true (exists n m) x)

module _ (n : Counts) (t : List ℕ) (i : ℕ) (low : 1 ≤ i) where
  pub server_up_cell : i ≤ n.servers → view n t (server_up i) ≡ get_or t (place n (server_up i)) 0
  server_up_cell high = view_cell n t (server_up i) (in_inside n.servers i low high)

  pub suspects_cell : i ≤ n.servers → view n t (suspects i) ≡ get_or t (place n (server_up i) + 1) 0
  unfolding place
  suspects_cell high = view_cell n t (suspects i) (in_inside n.servers i low high)

  pub database_up_cell : i ≤ n.databases → view n t (database_up i) ≡ get_or t (place n (database_up i)) 0
  database_up_cell high = view_cell n t (database_up i) (in_inside n.databases i low high)

  pub ready_cell : i ≤ n.databases → view n t (ready i) ≡ get_or t (place n (database_up i) + 1) 0
  unfolding place
  ready_cell high = view_cell n t (ready i) (in_inside n.databases i low high)

  pub client_up_cell : i ≤ n.clients → view n t (client_up i) ≡ get_or t (place n (client_up i)) 0
  client_up_cell high = view_cell n t (client_up i) (in_inside n.clients i low high)

  pub phase_cell : i ≤ n.clients → view n t (phase i) ≡ get_or t (place n (client_up i) + 1) 0
  unfolding place
  phase_cell high = view_cell n t (phase i) (in_inside n.clients i low high)

  pub attempt_cell : i ≤ n.clients → view n t (attempt i) ≡ get_or t (place n (client_up i) + 2) 0
  unfolding place
  attempt_cell high = view_cell n t (attempt i) (in_inside n.clients i low high)

  pub request_cell : i ≤ n.clients → view n t (request i) ≡ get_or t (place n (client_up i) + 3) 0
  unfolding place
  request_cell high = view_cell n t (request i) (in_inside n.clients i low high)

  pub delivered_cell : i ≤ n.clients → view n t (delivered i) ≡ get_or t (place n (client_up i) + 4) 0
  unfolding place
  delivered_cell high = view_cell n t (delivered i) (in_inside n.clients i low high)

-- ---- the same as code lends them, from a start to an end

module _ (t : List ℕ) (start m i at v : ℕ) where
  -- if the cell at its place holds v
  lent_cell : i < m → at ≡ start + i → v ≡ get_or t at 0 → get_or (take (start + m - start) (drop start t)) i 0 ≡ v
  lent_cell h e is =
      ap (λ (k : ℕ). get_or (part start k t) i 0) (add-sub_cancel_left start m)
      ∙ get_or_part start m t i h
      ∙ ap (λ (k : ℕ). get_or t k 0) (sym e)
      ∙ sym is

module _ (n : Counts) (t : List ℕ) (i : ℕ) (low : 1 ≤ i) where
  abbrev of : ℕ → ℕ → ℕ → ℕ
  of start m j = get_or (take (start + m - start) (drop start t)) j 0

  pub server_up_lent : i ≤ n.servers → of (place n (server_up i)) 2 0 ≡ view n t (server_up i)
  server_up_lent high = lent_cell t _ 2 0 _ _ (omega arith) (omega arith) (server_up_cell n t i low high)

  pub suspects_lent : i ≤ n.servers → of (place n (server_up i)) 2 1 ≡ view n t (suspects i)
  suspects_lent high = lent_cell t _ 2 1 _ _ (omega arith) (omega arith) (suspects_cell n t i low high)

  pub database_up_lent : i ≤ n.databases → of (place n (database_up i)) 2 0 ≡ view n t (database_up i)
  database_up_lent high = lent_cell t _ 2 0 _ _ (omega arith) (omega arith) (database_up_cell n t i low high)

  pub ready_lent : i ≤ n.databases → of (place n (database_up i)) 2 1 ≡ view n t (ready i)
  ready_lent high = lent_cell t _ 2 1 _ _ (omega arith) (omega arith) (ready_cell n t i low high)

  pub client_up_lent : i ≤ n.clients → of (place n (client_up i)) 5 0 ≡ view n t (client_up i)
  client_up_lent high = lent_cell t _ 5 0 _ _ (omega arith) (omega arith) (client_up_cell n t i low high)

  pub phase_lent : i ≤ n.clients → of (place n (client_up i)) 5 1 ≡ view n t (phase i)
  phase_lent high = lent_cell t _ 5 1 _ _ (omega arith) (omega arith) (phase_cell n t i low high)

  pub attempt_lent : i ≤ n.clients → of (place n (client_up i)) 5 2 ≡ view n t (attempt i)
  attempt_lent high = lent_cell t _ 5 2 _ _ (omega arith) (omega arith) (attempt_cell n t i low high)

  pub request_lent : i ≤ n.clients → of (place n (client_up i)) 5 3 ≡ view n t (request i)
  request_lent high = lent_cell t _ 5 3 _ _ (omega arith) (omega arith) (request_cell n t i low high)

  pub delivered_lent : i ≤ n.clients → of (place n (client_up i)) 5 4 ≡ view n t (delivered i)
  delivered_lent high = lent_cell t _ 5 4 _ _ (omega arith) (omega arith) (delivered_cell n t i low high)

-- and the row of a result
pub row_lent : (n : Counts) (t : List ℕ) (c k start end : ℕ) → length t ≡ table_length n → (1 ≤ c) × (c ≤ n.clients) → (1 ≤ k) × (k ≤ n.attempts)
    → start ≡ row_start n c k → end ≡ row_start n c k + row_length n → row_view n (take (end - start) (drop start t)) ≡ row_of (view n t) c k
row_lent n t c k start end long cIn kIn s e =
    let last : end ≡ start + row_length n = omega arith in
    rw last (lent_view n t c k long (in_inside n.clients c cIn.0 cIn.1) (in_inside n.attempts k kIn.0 kIn.1) start (row_length n) s refl)

pub ruleset server_lent = (server_inside, server_up_lent, suspects_lent)

pub ruleset database_lent = (database_inside, database_up_lent, ready_lent)

pub ruleset client_lent = (client_inside, client_up_lent, phase_lent, attempt_lent, request_lent, delivered_lent)
