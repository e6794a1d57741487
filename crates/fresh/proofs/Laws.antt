-- One turn of the loop, and that the code's writes to a cleared table make the fresh one.
use mathlib.Core.Path.{◌≡◌, refl, ap, ◌∙◌}
use mathlib.Core.List.{List, [], ◌∷◌, ◌++◌, append_assoc, append-nil}
use Prim.Native.Nat.{ℕ, zero, suc, ◌+◌, ◌*◌, ◌≤◌}
use native.Mathlib.Nat.{mul-zero, mul-suc}
use native.Mathlib.Omega.{arith}
use lib.ListN.{length, set, replicate, length-append, length-replicate, replicate-append-replicate}
use lib.Seq.{set_at}
use Rattle.protocol.specs.declared.Counts.{Counts}
use Rattle.protocol.specs.Cells.{server_up, database_up, client_up}
use Rattle.table.specs.Layout.{row_length, servers_start, databases_start, clients_start, rows_start, place, table_length}
use Rattle.table.specs.Table.{repeated, fresh_table}
use Rattle.table.proofs.Fresh.{repeated_length}
use Rattle.fresh.specs.Writes.{headed, raised}

-- ---- the loop: one more cell raised

pub raised_more : (count start width : ℕ) (t : List ℕ) → raised (count + 1) start width t ≡ set (raised count start width t) (start + width * count) 1
raised_more zero start width t = let e : start + width * 0 ≡ start = omega (arith, mul-zero width) in rw e
raised_more (suc count) start width t =
    let more : suc count + 1 ≡ suc (count + 1) = omega arith in
    let place : start + width + width * count ≡ start + width * suc count = omega (arith, mul-suc width count) in
    ap (λ m. raised m start width t) more
    ∙ raised_more count (start + width) width (set t start 1)
    ∙ ap (λ at. set (raised (suc count) start width t) at 1) place

-- ---- the parties

-- where the code starts to raise, and that all of them lie inside the table
module _ (n : Counts) where
  pub servers_first : place n (server_up 1) ≡ servers_start n
  unfolding place
  servers_first = omega arith

  pub databases_first : place n (database_up 1) ≡ databases_start n
  unfolding place
  databases_first = omega arith

  pub clients_first : place n (client_up 1) ≡ clients_start n
  unfolding place
  clients_first = omega arith

  pub parties_inside : rows_start n ≤ table_length n
  unfolding table_length
  parties_inside = omega arith

pub ruleset parties = (servers_first, databases_first, clients_first, parties_inside)

-- the cells of a party: up, and the zeros behind it
abbrev party : ℕ → List ℕ
party others = 1 ∷ replicate others 0

parties_length : (others count : ℕ) → length (repeated count (party others)) ≡ suc others * count
parties_length others count = repeated_length count (party others) ∙ ap (λ n. suc n * count) (length-replicate others 0)

-- the up cells raised in a part that is all zeros
raised_zeros : (others count start : ℕ) (before behind : List ℕ) → length before ≡ start
    → raised count start (suc others) (before ++ (replicate (suc others * count) 0 ++ behind)) ≡ (before ++ repeated count (party others)) ++ behind
raised_zeros others zero start before behind e = rw (mul-zero, append-nil)
raised_zeros others (suc count) start before behind e =
    let rest = replicate (suc others * count) 0 ++ behind in
    let many : suc others * suc count ≡ suc others + suc others * count = omega (arith, mul-suc (suc others) count) in
    let zeros : replicate (suc others * suc count) 0 ++ behind ≡ 0 ∷ (replicate others 0 ++ rest)
    = rw (many, ← replicate-append-replicate {A = ℕ} (suc others) (suc others * count) 0, append_assoc) in
    rw (zeros, set_at before 0 (replicate others 0 ++ rest) 1 start e, ← append_assoc before (party others) rest)
    (raised_zeros others count (start + suc others) (before ++ party others) behind (simp (length-append, length-replicate) (omega arith))
    ∙ simp append_assoc)

-- ---- the whole

-- zeros, cut into the parts of the table
parted : (a b c d : ℕ) → replicate (a + b + c + d) 0 ≡ replicate {A = ℕ} a 0 ++ (replicate b 0 ++ (replicate c 0 ++ replicate d 0))
parted a b c d =
    rw (
      ← replicate-append-replicate {A = ℕ} (a + b + c) d 0,
      ← replicate-append-replicate {A = ℕ} (a + b) c 0,
      ← replicate-append-replicate {A = ℕ} a b 0,
    )
    (simp append_assoc)

module _ (n : Counts) where
  abbrev header : List ℕ
  header = n.clients ∷ n.servers ∷ n.databases ∷ n.attempts ∷ []

  abbrev servers : List ℕ
  servers = repeated n.servers (party 1)

  abbrev databases : List ℕ
  databases = repeated n.databases (party 1)

  abbrev rows : List ℕ
  rows = replicate (n.clients * n.attempts * row_length n) 0

  abbrev client_zeros : List ℕ
  client_zeros = replicate (5 * n.clients) 0 ++ rows

  abbrev database_zeros : List ℕ
  database_zeros = replicate (2 * n.databases) 0 ++ client_zeros

  header_made : headed n (replicate (table_length n) 0) ≡ header ++ (replicate (2 * n.servers) 0 ++ database_zeros)
  unfolding table_length
  header_made =
      let all = 2 * n.servers + 2 * n.databases + 5 * n.clients + n.clients * n.attempts * row_length n in
      let e : table_length n ≡ suc (suc (suc (suc all))) = omega arith in
      rw e (ap (λ (l : List ℕ). header ++ l) (parted (2 * n.servers) (2 * n.databases) (5 * n.clients) (n.clients * n.attempts * row_length n)))

  servers_made : raised n.servers (servers_start n) 2 (header ++ (replicate (2 * n.servers) 0 ++ database_zeros)) ≡ (header ++ servers) ++ database_zeros
  servers_made = raised_zeros 1 n.servers (servers_start n) header database_zeros refl

  databases_made : raised n.databases (databases_start n) 2 ((header ++ servers) ++ database_zeros) ≡ ((header ++ servers) ++ databases) ++ client_zeros
  databases_made =
      raised_zeros 1 n.databases (databases_start n) (header ++ servers) client_zeros
      (omega (arith, parties_length 1 n.servers))

  clients_made : raised n.clients (clients_start n) 5 (((header ++ servers) ++ databases) ++ client_zeros) ≡ fresh_table n
  unfolding fresh_table
  clients_made =
      raised_zeros 4 n.clients (clients_start n) ((header ++ servers) ++ databases) rows
      (simp length-append (omega (arith, parties_length 1 n.servers, parties_length 1 n.databases)))
      ∙ simp append_assoc

  pub made : (t : List ℕ) → length t ≡ table_length n
      → raised n.clients (clients_start n) 5
      (raised n.databases (databases_start n) 2 (raised n.servers (servers_start n) 2 (headed n (replicate (length t) 0)))) ≡ fresh_table n
  made t e = rw (e, header_made, servers_made, databases_made) clients_made
