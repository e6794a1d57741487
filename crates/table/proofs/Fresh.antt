-- The fresh table: it has the length and the counts of its setup, holds the fresh state and is sound, and setting up makes it.
use mathlib.Core.Logic.{◌↔◌}
use mathlib.Core.Path.{◌≡◌, refl, sym, subst, fun_ext, ◌∙◌}
use mathlib.Core.Bool.{Bool, true, false, cond, ◌&&◌}
use mathlib.Core.List.{List, [], ◌∷◌, ◌++◌, append_assoc}
use Prim.Native.Nat.{ℕ, zero, suc, ◌+◌, ◌-◌, ◌*◌, ◌<◌}
use native.Mathlib.Nat.{zero-add, add_assoc, mul-zero, mul-suc}
use native.Mathlib.Omega.{arith}
use borrow.Author.Tests.{ne_eqb}
use lib.Dec.{T, eqb, eqb_refl}
use lib.ListN.{length, get_or, replicate, length-append, length-replicate, get_or-append}
use lib.Seq.{get_or-append-add}
use Rattle.lists.specs.Tests.{every, inside}
use Rattle.lists.proofs.Choice.{every_all, inside_low, inside_high, passed, passes}
use Rattle.protocol.specs.declared.Counts.{Counts}
use Rattle.protocol.specs.Cells.{Name, server_up, suspects, database_up, ready, client_up, phase, attempt, request, delivered, row, exists, is_up, fresh}
use Rattle.protocol.specs.Numbers.{count_tests, in_range}
use Rattle.protocol.proofs.Range.{facts_range}
use Rattle.protocol.proofs.Soundness.{fresh_range}
use Rattle.table.specs.Layout.{slot, row_length, servers_start, databases_start, clients_start, rows_start, rows_before, row_start, place, table_length}
use Rattle.table.specs.Table.{counts_of, view, size_tests, repeated, fresh_table}
use Rattle.table.specs.Jobs.{set_up_number, set_up, table_number}
use Rattle.table.proofs.Accepts.{sound_table}

-- ---- cells repeated

pub repeated_length : (n : ℕ) (cells : List ℕ) → length (repeated n cells) ≡ length cells * n
repeated_length zero cells = sym (mul-zero (length cells))
repeated_length (suc n) cells = simp (length-append, repeated_length n cells, mul-suc) (omega arith)

-- cell j of the cells, behind i repetitions of them
get_or_repeated : (n : ℕ) (cells rest : List ℕ) (i j : ℕ) → i < n → j < length cells
    → get_or (repeated n cells ++ rest) (length cells * i + j) 0 ≡ get_or cells j 0
get_or_repeated zero cells rest i j l h = absurd (omega arith)
get_or_repeated (suc n) cells rest zero j l h = rw (append_assoc, mul-zero, zero-add) (get_or-append cells (repeated n cells ++ rest) 0 j h)
get_or_repeated (suc n) cells rest (suc i) j l h =
    let e : length cells * suc i + j ≡ length cells + (length cells * i + j) = omega (arith, mul-suc (length cells) i) in
    rw (append_assoc, e)
    (get_or-append-add cells (repeated n cells ++ rest) (length cells * i + j) 0 ∙ get_or_repeated n cells rest i j (omega arith) h)

get_or_behind : (n : ℕ) (cells rest : List ℕ) (i : ℕ) → get_or (repeated n cells ++ rest) (length cells * n + i) 0 ≡ get_or rest i 0
get_or_behind n cells rest i = rw (← repeated_length n cells) (get_or-append-add (repeated n cells) rest i 0)

get_or_zeros : (n i : ℕ) → get_or {A = ℕ} (replicate n 0) i 0 ≡ 0
get_or_zeros zero i = refl
get_or_zeros (suc n) zero = refl
get_or_zeros (suc n) (suc i) = get_or_zeros n i

-- ---- the fresh table from each of its parts on

module _ (n : Counts) where
  abbrev row_cells : List ℕ
  row_cells = replicate (n.clients * n.attempts * row_length n) 0

  abbrev client_cells : List ℕ
  client_cells = repeated n.clients (1 ∷ 0 ∷ 0 ∷ 0 ∷ 0 ∷ []) ++ row_cells

  abbrev database_cells : List ℕ
  database_cells = repeated n.databases (1 ∷ 0 ∷ []) ++ client_cells

  abbrev server_cells : List ℕ
  server_cells = repeated n.servers (1 ∷ 0 ∷ []) ++ database_cells

  from_servers : (i : ℕ) → get_or (fresh_table n) (servers_start n + i) 0 ≡ get_or server_cells i 0
  unfolding fresh_table
  from_servers i = get_or-append-add (n.clients ∷ n.servers ∷ n.databases ∷ n.attempts ∷ []) server_cells i 0

  from_databases : (i : ℕ) → get_or (fresh_table n) (databases_start n + i) 0 ≡ get_or database_cells i 0
  from_databases i =
      rw (add_assoc (servers_start n) (2 * n.servers) i)
      (from_servers (2 * n.servers + i) ∙ get_or_behind n.servers (1 ∷ 0 ∷ []) database_cells i)

  from_clients : (i : ℕ) → get_or (fresh_table n) (clients_start n + i) 0 ≡ get_or client_cells i 0
  from_clients i =
      rw (add_assoc (databases_start n) (2 * n.databases) i)
      (from_databases (2 * n.databases + i) ∙ get_or_behind n.databases (1 ∷ 0 ∷ []) client_cells i)

  from_rows : (i : ℕ) → get_or (fresh_table n) (rows_start n + i) 0 ≡ 0
  from_rows i =
      rw (add_assoc (clients_start n) (5 * n.clients) i)
      (from_clients (5 * n.clients + i) ∙ get_or_behind n.clients (1 ∷ 0 ∷ 0 ∷ 0 ∷ 0 ∷ []) row_cells i
      ∙ get_or_zeros (n.clients * n.attempts * row_length n) i)

  -- cell j of party i of m, where the cells of the m parties start at `start`
  abbrev PartyCells : (start m : ℕ) (cells : List ℕ) → Type 0
  PartyCells start m cells = (i : ℕ) → T (inside m i) → (j p : ℕ) → j < length cells → p ≡ start + (length cells * (i - 1) + j)
      → get_or (fresh_table n) p 0 ≡ get_or cells j 0

  party_cells_lem : (start m : ℕ) (cells rest : List ℕ) → ((i : ℕ) → get_or (fresh_table n) (start + i) 0 ≡ get_or (repeated m cells ++ rest) i 0)
      → PartyCells start m cells
  party_cells_lem start m cells rest from i x j p h e =
      let low = inside_low m i x in
      let high = inside_high m i x in
      rw e (from (length cells * (i - 1) + j) ∙ get_or_repeated m cells rest (i - 1) j (omega arith) h)

  server : PartyCells (servers_start n) n.servers (1 ∷ 0 ∷ [])
  server = party_cells_lem (servers_start n) n.servers (1 ∷ 0 ∷ []) database_cells from_servers

  database : PartyCells (databases_start n) n.databases (1 ∷ 0 ∷ [])
  database = party_cells_lem (databases_start n) n.databases (1 ∷ 0 ∷ []) client_cells from_databases

  client : PartyCells (clients_start n) n.clients (1 ∷ 0 ∷ 0 ∷ 0 ∷ 0 ∷ [])
  client = party_cells_lem (clients_start n) n.clients (1 ∷ 0 ∷ 0 ∷ 0 ∷ 0 ∷ []) row_cells from_clients

  fresh_cell : (m : Name) → T (exists n m) → get_or (fresh_table n) (place n m) 0 ≡ cond (is_up m) 1 0
  unfolding place row_start
  fresh_cell (server_up i) x = server i x 0 (place n (server_up i)) (omega arith) (omega arith)
  fresh_cell (suspects i) x = server i x 1 (place n (suspects i)) (omega arith) (omega arith)
  fresh_cell (database_up d) x = database d x 0 (place n (database_up d)) (omega arith) (omega arith)
  fresh_cell (ready d) x = database d x 1 (place n (ready d)) (omega arith) (omega arith)
  fresh_cell (client_up c) x = client c x 0 (place n (client_up c)) (omega arith) (omega arith)
  fresh_cell (phase c) x = client c x 1 (place n (phase c)) (omega arith) (omega arith)
  fresh_cell (attempt c) x = client c x 2 (place n (attempt c)) (omega arith) (omega arith)
  fresh_cell (request c) x = client c x 3 (place n (request c)) (omega arith) (omega arith)
  fresh_cell (delivered c) x = client c x 4 (place n (delivered c)) (omega arith) (omega arith)
  fresh_cell (row c k f) x =
      rw (add_assoc (rows_start n) (rows_before n c k * row_length n) (slot n f))
      (from_rows (rows_before n c k * row_length n + slot n f))

-- ---- the laws

choice : (real up : Bool) (x : ℕ) → (T real → x ≡ cond up 1 0) → cond real x 0 ≡ cond (up && real) 1 0
choice true true x f = f tt
choice true false x f = f tt
choice false true x f = refl
choice false false x f = refl

module _ (n : Counts) where
  pub fresh_length : length (fresh_table n) ≡ table_length n
  unfolding fresh_table table_length
  fresh_length = simp (length-append, repeated_length, length-replicate) (omega arith)

  pub fresh_counts : counts_of (fresh_table n) ≡ n
  unfolding fresh_table
  fresh_counts = refl

  pub fresh_view : view n (fresh_table n) ≡ fresh n
  unfolding view fresh
  fresh_view = fun_ext (λ m. choice (exists n m) (is_up m) (get_or (fresh_table n) (place n m) 0) (fresh_cell n m))

  pub fresh_sound : T (every (count_tests n)) → table_number (fresh_table n) ≡ 0
  unfolding fresh_table
  fresh_sound counts =
      let long = subst (λ k. T (eqb k (table_length n))) (sym fresh_length) (eqb_refl (table_length n)) in
      let range = subst (λ s. T (in_range n s)) (sym fresh_view) (facts_range n (fresh n) (fresh_range n)) in
      sound_table (fresh_table n) (record { size = (long, every_all (count_tests n) counts); range = range })

-- ---- setting up

module _ (t : List ℕ) (n : Counts) where
  -- 0 is answered exactly when the counts and the length are right, and then the cells are those of the fresh table
  pub set_up_number_lem : ((set_up t n).number ≡ 0) ↔ T (every (size_tests n t))
  unfolding set_up set_up_number
  set_up_number_lem =
      ((λ e. (passed (every (size_tests n t)) 0 1 (omega arith) e).0), (λ tests. passes (every (size_tests n t)) 0 1 tests refl))

  pub set_up_lem : (set_up t n).number ≡ 0 → (set_up t n).cells ≡ fresh_table n
  unfolding set_up
  set_up_lem e = rw e refl

  pub set_up_refused : ((set_up t n).number ≡ 0 → ⊥) → (set_up t n).cells ≡ t
  unfolding set_up
  set_up_refused refused = rw (ne_eqb (set_up t n).number 0 refused) refl
