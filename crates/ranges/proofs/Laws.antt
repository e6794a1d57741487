-- What the range check leans on: what `all` answers over ids and over rows, the tests of a row in groups, and masks seen together.
use mathlib.Core.Path.{◌≡◌, refl, sym, ap, ap₂, ◌∙◌}
use mathlib.Core.Bool.{Bool, true, false, ◌&&◌, and_assoc, and-true}
use mathlib.Core.List.{List, [], ◌∷◌, map}
use Prim.Native.Nat.{ℕ, zero, suc, ◌≤◌, ◌*◌, ◌/◌, ◌+◌, ◌-◌, ◌^◌, ◌<◌}
use native.Mathlib.Omega.{arith}
use native.Mathlib.Nat.{le_of_mul-le-mul_right, mul-div_cancel}
use lib.Bits.{bit_or, or_lt, or_add_and, and_le_l, and_le_r}
use lib.Dec.{T, leb, leb→le, le→leb}
use lib.Pow.{le_ones, lt_of_le_ones}
use lib.ListN.{length, get_or, take, drop, length-drop}
use lib.Seq.{get_or-drop, take-length}
use denote.Param.Members.{Mut, Called}
use denote.Ref.{Bor}
use Rattle.std.specs.Bool.{MatchBool}
use Rattle.std.specs.List.{fold, slice_get}
use Rattle.std.specs.Prelude.{Option, Some, IsTrue}
use Rattle.std.specs.Range.{range_inclusive_start, range_inclusive_end, range_inclusive_exhausted}
use Rattle.std.specs.declared.ops.RangeInclusive.{RangeInclusive}
use Rattle.std.specs.Iterator.Runs.{Run, SomeRun, EveryRun, AllItemsGive, AnyItemGives, CallKeepsClosure, IsChunksExactRun}
use Rattle.std.specs.declared.slice.ChunksExact.{ChunksExact}
use Rattle.std.specs.Slice.Iter.{chunks_exact_steps, chunks_exact_rest, chunks_exact_size}
use Rattle.std.proofs.iter.runs.Made.{at-is}
use Rattle.std.proofs.lemmas.List.{drop-drop, take_rest}
use Rattle.std.proofs.iter.runs.Sources.{nat_range_inclusive_steps, inclusive_listed}
use Rattle.lists.specs.Parts.{part}
use Rattle.lists.specs.Tests.{every, each, inside}
use Rattle.lists.proofs.Choice.{in_each, true_T, and_left, and_right, both, T_true, same_answer, every_all, all_every, each_same, each_fails, each_more, each_grid, in_inside}
use Rattle.protocol.specs.Cells.{Row, row_of, acked, known}
use Rattle.protocol.specs.Numbers.{row_tests}
use Rattle.protocol.specs.declared.Counts.{Counts}
use Rattle.masks.specs.Mask.{all}
use Rattle.table.specs.Layout.{row_length, rows_start, rows_before, row_start, table_length}
use Rattle.table.specs.Table.{view, row_view}
use Rattle.table.proofs.Lent.{row_view_lem}
use Rattle.ranges.specs.Groups.{number_tests, server_mask_tests, database_mask_tests}

-- ---- what `all` answers, where the closure computes a test and the places are known

module _ {S A : Type 0} {steps : S → Option A → S → Type 0} where
  there : (p : Run steps) (k : ℕ) → k < p.len → (x : A) × (p.at k ≡ Some x)
  there p k h = let (x, is) = got p.items k (omega (arith, p.long)) in (x, at-is p k ∙ is)
    where
      got : (xs : List A) (i : ℕ) → i < length xs → (x : A) × (slice_get xs i ≡ Some x)
      got [] i l = absurd (omega arith)
      got (x ∷ xs) zero l = (x, refl)
      got (x ∷ xs) (suc i) l = got xs i (omega arith)

  -- m items, of which the one at each place is as the test of the id behind that place
  abbrev pub Tests : Run steps → ℕ → (A → Bool) → (ℕ → Bool) → Type 0
  Tests p m value test = (p.len ≤ m) × (p.whole ≡ true → p.len ≡ m) × ((k : ℕ) (x : A) → p.at k ≡ Some x → value x ≡ test (suc k))

  pub all_each : {F : Type 0} {g : Mut F (A × Unit {0}) Bool} {s : S} (f : F) (m : ℕ) (value : A → Bool) (test : ℕ → Bool) (r : Bool)
      → SomeRun steps s (λ p. MatchBool r (IsTrue p.whole × AllItemsGive p g f true) (AnyItemGives p g f false))
      → ((x : A) (b : Bool) (q : F) → Called g f (x, tt) b q → (q ≡ f) × (b ≡ value x))
      → ((p : Run steps) → p.from ≡ s → Tests p m value test) → r ≡ each m test
  all_each {F} {g} f m value test r (p, from, ran) computes tests = decide r ran (tests p from)
    where
      kept : CallKeepsClosure g f
      kept x b q called = (computes x.0 b q called).0

      decide : (r : Bool) → MatchBool r (IsTrue p.whole × AllItemsGive p g f true) (AnyItemGives p g f false) → Tests p m value test → r ≡ each m test
      decide true all (most, whole, same) =
          sym (T_true _ (in_each m test (λ i low high.
          let (x, is) = there p (i - 1) (omega (arith, whole all.0)) in
          let called = rw is at (all.1 kept (i - 1)) in
          let e : suc (i - 1) ≡ i = omega arith in
          true_T _ (ap test (sym e) ∙ sym (same (i - 1) x is) ∙ sym (computes x true f called).1))))
      decide false any (most, whole, same) =
          let (k, inside, fails) = any kept in
          let (x, is) = there p k inside in
          let called = rw is at fails in
          sym (each_fails m test (suc k) (omega arith) (omega (arith, most)) (sym (same k x is) ∙ sym (computes x false f called).1))

-- over the ids from 1 to n
pub all_ids : {F : Type 0} {g : Mut F (ℕ × Unit {0}) Bool} {s : RangeInclusive ℕ} (f : F) (n : ℕ) (test : ℕ → Bool) (r : Bool)
    → SomeRun nat_range_inclusive_steps s (λ p. MatchBool r (IsTrue p.whole × AllItemsGive p g f true) (AnyItemGives p g f false))
    → range_inclusive_start s ≡ 1 → range_inclusive_end s ≡ n → range_inclusive_exhausted s ≡ false
    → ((i : ℕ) (b : Bool) (q : F) → Called g f (i, tt) b q → (q ≡ f) × (b ≡ test i)) → r ≡ each n test
all_ids {s = s} f n test r runs low high fresh computes = all_each f n test test r runs computes tests
  where
    tests : (p : Run nat_range_inclusive_steps) → p.from ≡ s → Tests p n test test
    tests p from =
        let (a, b, a_is, b_is, counts) = inclusive_listed p p.seen in
        let up = (counts (ap range_inclusive_exhausted from ∙ fresh)).0 in
        let first : a ≡ 1 = a_is ∙ ap range_inclusive_start from ∙ low in
        let last : b ≡ n + 1 = b_is ∙ ap (λ (t : RangeInclusive ℕ). range_inclusive_end t + 1) from ∙ ap (λ (k : ℕ). k + 1) high in (
          omega (arith, up.0, first, last),
          (λ w. omega (arith, up.1 w, first, last)),
          (λ k x is. let placed = rw is at (up.2 k) in let e : x ≡ suc k = omega (arith, placed.0, first) in ap test e),
        )

-- over the rows, one behind the other: the tests of a row by its number, counted from 1
abbrev pub row_test : Counts → List ℕ → ℕ → Bool
row_test n t i = every (row_tests n (row_view n (part (rows_start n + (i - 1) * row_length n) (row_length n) t)))

module _ (n : Counts) (t : List ℕ) (long : length t ≡ table_length n) where
  pub rows_inside : rows_start n ≤ length t
  unfolding table_length
  rows_inside = omega (arith, long)

  rows_long : length (drop (rows_start n) t) ≡ n.clients * n.attempts * row_length n
  unfolding table_length
  rows_long = simp length-drop (omega (arith, long))

  tested : (p : Run chunks_exact_steps) → chunks_exact_size p.from ≡ row_length n → chunks_exact_rest p.from ≡ drop (rows_start n) t
      → (0 < chunks_exact_size p.from → IsChunksExactRun p (chunks_exact_size p.from) (chunks_exact_rest p.from))
      → Tests p (n.clients * n.attempts) (λ x. every (row_tests n (row_view n x.now))) (row_test n t)
  tested p width cells runs =
      let used : 0 < chunks_exact_size p.from = omega (arith, width) in
      let some : 0 < row_length n = omega arith in
      let run = rw (width, cells) at (runs used) in (
        le_of_mul-le-mul_right (rw rows_long at run.0) some,
        (λ w. run.1 w ∙ ap (λ l. l / row_length n) rows_long ∙ mul-div_cancel (n.clients * n.attempts) some),
        (λ k x is.
            let placed = rw is at (run.2 k) in
            let e : k ≡ suc k - 1 = omega arith in
            ap (λ l. every (row_tests n (row_view n l)))
            (placed.2.0 ∙ ap (take (row_length n)) (drop-drop (k * row_length n) (rows_start n) t ∙ ap (λ i. drop (rows_start n + i * row_length n) t) e))),
      )

  -- the rows by number are those of the clients' attempts
  pub rows_are : each (n.clients * n.attempts) (row_test n t) ≡ each n.clients (λ c. each n.attempts (λ k. every (row_tests n (row_of (view n t) c k))))
  unfolding row_start rows_before
  rows_are =
      each_grid (row_test n t) n.attempts n.clients
      ∙ each_same n.clients (λ c. each n.attempts (λ k. row_test n t ((c - 1) * n.attempts + k))) (λ c. each n.attempts (λ k. every (row_tests n (row_of (view n t) c k))))
      (λ c c_low c_high. each_same n.attempts (λ k. row_test n t ((c - 1) * n.attempts + k)) (λ k. every (row_tests n (row_of (view n t) c k))) (λ k k_low k_high. row_is c k c_low c_high k_low k_high))
    where
      less_one : (a k : ℕ) → 1 ≤ k → a + k - 1 ≡ a + (k - 1)
      less_one a k h = omega arith

      row_is : (c k : ℕ) → 1 ≤ c → c ≤ n.clients → 1 ≤ k → k ≤ n.attempts → row_test n t ((c - 1) * n.attempts + k) ≡ every (row_tests n (row_of (view n t) c k))
      row_is c k c_low c_high k_low k_high =
          ap (λ (m : ℕ). every (row_tests n (row_view n (part (rows_start n + m * row_length n) (row_length n) t)))) (less_one ((c - 1) * n.attempts) k k_low)
          ∙ ap (λ r. every (row_tests n r)) (sym (row_view_lem n t c k long (in_inside n.clients c c_low c_high) (in_inside n.attempts k k_low k_high)))

  pub all_rows : {F : Type 0} {g : Mut F (Bor (List ℕ) × Unit {0}) Bool} {s : ChunksExact ℕ} (f : F) (r : Bool) (start : ℕ)
      → SomeRun chunks_exact_steps s (λ p. MatchBool r (IsTrue p.whole × AllItemsGive p g f true) (AnyItemGives p g f false))
      → EveryRun (chunks_exact_steps {A = ℕ}) (λ p. 0 < chunks_exact_size p.from → IsChunksExactRun p (chunks_exact_size p.from) (chunks_exact_rest p.from))
      → start ≡ rows_start n → chunks_exact_rest s ≡ take (length t - start) (drop start t) → chunks_exact_size s ≡ row_length n
      → ((x : Bor (List ℕ)) (b : Bool) (q : F) → Called g f (x, tt) b q → (q ≡ f) × (b ≡ every (row_tests n (row_view n x.now))))
      → r ≡ each n.clients (λ c. each n.attempts (λ k. every (row_tests n (row_of (view n t) c k))))
  all_rows {s = s} f r start runs chunks here cells width computes =
      let rows : chunks_exact_rest s ≡ drop (rows_start n) t = cells ∙ take_rest t start ∙ ap (λ a. drop a t) here in
      all_each f (n.clients * n.attempts) (λ x. every (row_tests n (row_view n x.now))) (row_test n t) r runs computes
      (λ p from. tested p (ap chunks_exact_size from ∙ width) (ap chunks_exact_rest from ∙ rows) (chunks p p.seen))
      ∙ rows_are

-- ---- the tests of a row, in three groups

pub row_grouped : (n : Counts) (r : Row)
    → every (row_tests n r) ≡ every (every (number_tests n r) ∷ every (server_mask_tests n r) ∷ every (database_mask_tests n r) ∷ [])
row_grouped n r = same_answer (every (row_tests n r)) (every groups) apart together
  where
    groups : List Bool
    groups = every (number_tests n r) ∷ every (server_mask_tests n r) ∷ every (database_mask_tests n r) ∷ []

    apart : T (every (row_tests n r)) → T (every groups)
    apart t =
        let (owner, (outcome, (sent, (voted, (votedYes, (heard, (heardYes, (written, (terminating, (decided, (committed, (sentAcks, (knownAcks, end))))))))))))) = every_all (row_tests n r) t in
        all_every groups (
          all_every (number_tests n r) (owner, (outcome, (written, tt))),
          (
            all_every (server_mask_tests n r) (sent, (terminating, tt)),
            (all_every (database_mask_tests n r) (voted, (votedYes, (heard, (heardYes, (decided, (committed, (sentAcks, (knownAcks, tt)))))))), tt),
          ),
        )

    together : T (every groups) → T (every (row_tests n r))
    together t =
        let (numbers, (servers, (databases, end))) = every_all groups t in
        let (owner, (outcome, (written, end))) = every_all (number_tests n r) numbers in
        let (sent, (terminating, end)) = every_all (server_mask_tests n r) servers in
        let (voted, (votedYes, (heard, (heardYes, (decided, (committed, (sentAcks, (knownAcks, end)))))))) = every_all (database_mask_tests n r) databases in
        all_every (row_tests n r) (owner, (outcome, (sent, (voted, (votedYes, (heard, (heardYes, (written, (terminating, (decided, (committed, (sentAcks, (knownAcks, tt)))))))))))))

-- ---- masks, by what stands in any of them

or_fits : (d a b : ℕ) → leb (bit_or a b) (all d) ≡ (leb a (all d) && leb b (all d))
unfolding all
or_fits d a b = same_answer (leb (bit_or a b) most) (leb a most && leb b most)
    (λ t. let h = leb→le (bit_or a b) most t in
    both (leb a most) (leb b most) (le→leb a most (omega (arith, or_add_and a b, and_le_r a b))) (le→leb b most (omega (arith, or_add_and a b, and_le_l a b))))
    (λ t. le→leb (bit_or a b) most (le_ones d (or_lt d a b
    (lt_of_le_ones d (leb→le a most (and_left (leb a most) (leb b most) t)))
    (lt_of_le_ones d (leb→le b most (and_right (leb a most) (leb b most) t))))))
  where
    most : ℕ
    most = 2 ^ d - 1

-- a mask and those that follow it
pub joined_fit : (d mask : ℕ) (masks : List ℕ) → leb (fold bit_or mask masks) (all d) ≡ every (map (λ m. leb m (all d)) (mask ∷ masks))
joined_fit d mask [] = sym (and-true (leb mask (all d)))
joined_fit d mask (next ∷ masks) =
    joined_fit d (bit_or mask next) masks
    ∙ ap (λ b. b && every (map (λ m. leb m (all d)) masks)) (or_fits d mask next)
    ∙ and_assoc (leb mask (all d)) (leb next (all d)) (every (map (λ m. leb m (all d)) masks))

-- tests of a list, by place
every_each : (p : ℕ → Bool) (l : List ℕ) → every (map p l) ≡ each (length l) (λ i. p (get_or l (i - 1) 0))
unfolding each
every_each p [] = refl
every_each p (x ∷ l) =
    let e : suc (length l) ≡ 1 + length l = omega arith in
    ap (λ b. p x && b) (every_each p l ∙ each_same (length l) (λ i. p (get_or l (i - 1) 0)) (λ i. p (get_or (x ∷ l) (1 + i - 1) 0)) (λ i low high. let f : 1 + i - 1 ≡ suc (i - 1) = omega arith in rw f))
    ∙ sym (ap (λ m. each m (λ i. p (get_or (x ∷ l) (i - 1) 0))) e ∙ each_more (λ i. p (get_or (x ∷ l) (i - 1) 0)) 1 (length l))

abbrev pub fits : Counts → List ℕ → ℕ → Bool
fits n l i = leb (get_or l i 0) (all n.databases)

module _ (n : Counts) (l : List ℕ) (long : length l ≡ row_length n) where
  abbrev acked_fit : Bool
  acked_fit = each n.servers (λ i. leb (row_view n l (acked i)) (all n.databases))

  abbrev known_fit : Bool
  known_fit = each n.servers (λ i. leb (row_view n l (known i)) (all n.databases))

  -- those sent to the servers, then those that they know
  acknowledgements : every (map (λ m. leb m (all n.databases)) (drop 13 l)) ≡ (acked_fit && known_fit)
  acknowledgements =
      let many : length (drop 13 l) ≡ n.servers + n.servers = simp length-drop (omega arith) in
      every_each (λ m. leb m (all n.databases)) (drop 13 l)
      ∙ ap (λ m. each m (λ i. leb (get_or (drop 13 l) (i - 1) 0) (all n.databases))) many
      ∙ each_more (λ i. leb (get_or (drop 13 l) (i - 1) 0) (all n.databases)) n.servers n.servers
      ∙ ap₂ (λ a b. a && b)
      (each_same n.servers _ _ (λ i low high.
      let e : 13 + (i - 1) ≡ 12 + i = omega arith in
      rw (T_true (inside n.servers i) (in_inside n.servers i low high), get_or-drop 13 l (i - 1) 0, e)))
      (each_same n.servers _ _ (λ i low high.
      let e : 13 + (n.servers + i - 1) ≡ 12 + n.servers + i = omega arith in
      rw (T_true (inside n.servers i) (in_inside n.servers i low high), get_or-drop 13 l (n.servers + i - 1) 0, e)))

  -- as the code joins them, those of the row's end lent by themselves
  pub database_masks_lem : (fixed : ℕ) → fixed ≡ fold bit_or (get_or l 5 0) (get_or l 6 0 ∷ get_or l 7 0 ∷ get_or l 8 0 ∷ get_or l 11 0 ∷ get_or l 12 0 ∷ [])
      → leb (fold bit_or fixed (take (length l - 13) (drop 13 l))) (all n.databases) ≡ every (database_mask_tests n (row_view n l))
  database_masks_lem fixed is =
      let rest : take (length l - 13) (drop 13 l) ≡ drop 13 l = ap (λ m. take m (drop 13 l)) (sym (length-drop 13 l)) ∙ take-length (drop 13 l) in
      rw (is, rest)
      (joined_fit n.databases (get_or l 5 0) (get_or l 6 0 ∷ get_or l 7 0 ∷ get_or l 8 0 ∷ get_or l 11 0 ∷ get_or l 12 0 ∷ drop 13 l)
      ∙ rw (acknowledgements, and-true known_fit))
