-- A list of cells as a table: its counts, the state that it holds, the fresh table, and writes by name.
use Rattle.std.specs.Prelude.{Bool, cond, List, [], ◌∷◌, ◌++◌, ℕ, zero, suc, ◌*◌, eqb, length, get_or, set, replicate}
use Rattle.lists.specs.Tests.{every}
use Rattle.protocol.specs.declared.Counts.{Counts}
use Rattle.protocol.specs.Cells.{State, Row, exists, field_exists, Writes, RowWrites}
use Rattle.protocol.specs.Numbers.{count_tests, in_range}
use Rattle.table.specs.Layout.{slot, row_length, place, table_length}

-- the counts in the header
abbrev pub counts_of : List ℕ → Counts
counts_of t = record { clients = get_or t 0 0; servers = get_or t 1 0; databases = get_or t 2 0; attempts = get_or t 3 0 }

-- the state that the cells hold; what does not exist is 0
unfoldable pub view : Counts → List ℕ → State
unfolding place
view n t m = cond (exists n m) (get_or t (place n m) 0) 0

-- 1: a count outside its range, or a table of another length
abbrev pub size_tests : Counts → List ℕ → List Bool
size_tests n t = eqb (length t) (table_length n) ∷ count_tests n

-- counts and length right, and every cell in range
unfoldable pub sound : List ℕ → Bool
unfolding view in_range table_length
sound t = every (every (size_tests (counts_of t) t) ∷ in_range (counts_of t) (view (counts_of t) t) ∷ [])

-- ---- the fresh table: the header, every up cell 1 and all else 0

abbrev pub repeated : ℕ → List ℕ → List ℕ
repeated zero cells = []
repeated (suc n) cells = cells ++ repeated n cells

unfoldable pub fresh_table : Counts → List ℕ
fresh_table n =
    (n.clients ∷ n.servers ∷ n.databases ∷ n.attempts ∷ [])
    ++ (repeated n.servers (1 ∷ 0 ∷ [])
    ++ (repeated n.databases (1 ∷ 0 ∷ [])
    ++ (repeated n.clients (1 ∷ 0 ∷ 0 ∷ 0 ∷ 0 ∷ [])
    ++ replicate (n.clients * n.attempts * row_length n) 0)))

-- ---- writes

abbrev pub set_all : Counts → List ℕ → Writes → List ℕ
set_all n t [] = t
set_all n t (w ∷ ws) = set_all n (set t (place n w.0) w.1) ws

-- the same in a row lent by itself, and the row that such cells hold
abbrev pub set_fields : Counts → List ℕ → RowWrites → List ℕ
set_fields n l [] = l
set_fields n l (w ∷ ws) = set_fields n (set l (slot n w.0) w.1) ws

abbrev pub row_view : Counts → List ℕ → Row
row_view n l f = cond (field_exists n f) (get_or l (slot n f) 0) 0
