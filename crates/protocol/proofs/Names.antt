-- Names are told apart by what `same` compares: two names with the same tag, server, attempt and party are one.
use mathlib.Core.Path.{◌≡◌, refl, sym, ◌∙◌}
use mathlib.Core.Bool.{◌&&◌}
use mathlib.Core.List.{List, [], ◌∷◌}
use Prim.Native.Nat.{ℕ}
use lib.Dec.{T, eqb}
use lib.ListN.{get_or}
use Rattle.protocol.specs.Cells.{Field, owner, outcome, value, computed, sent, voted, voted_yes, heard, heard_yes, written, terminating, decided, committed, acked, known, field_tag, field_server, same_field}
use Rattle.protocol.specs.Cells.{Name, server_up, suspects, database_up, ready, client_up, phase, attempt, request, delivered, row, tag, server_of, attempt_of, party_of, same}
use Rattle.protocol.proofs.Tests.{split, join, split_both, join_both}

-- ---- the fields by their tags

fields_by_tag : List (ℕ → Field)
fields_by_tag =
    (λ i. owner) ∷ (λ i. outcome) ∷ (λ i. value) ∷ (λ i. computed) ∷ (λ i. sent) ∷ (λ i. voted) ∷ (λ i. voted_yes) ∷ (λ i. heard) ∷ (λ i. heard_yes)
    ∷ (λ i. written) ∷ (λ i. terminating) ∷ (λ i. decided) ∷ (λ i. committed) ∷ (λ i. acked i) ∷ (λ i. known i) ∷ []

field_at : ℕ → ℕ → Field
field_at t i = get_or fields_by_tag t (λ i. owner) i

field_is : (f : Field) → f ≡ field_at (field_tag f) (field_server f)
unfolding field_at fields_by_tag
field_is owner = refl
field_is outcome = refl
field_is value = refl
field_is computed = refl
field_is sent = refl
field_is voted = refl
field_is voted_yes = refl
field_is heard = refl
field_is heard_yes = refl
field_is written = refl
field_is terminating = refl
field_is decided = refl
field_is committed = refl
field_is (acked i) = refl
field_is (known i) = refl

-- ---- the names by their tags

names_by_tag : List (ℕ → ℕ → ℕ → Name)
names_by_tag =
    (λ i k c. row c k owner) ∷ (λ i k c. row c k outcome) ∷ (λ i k c. row c k value) ∷ (λ i k c. row c k computed) ∷ (λ i k c. row c k sent)
    ∷ (λ i k c. row c k voted) ∷ (λ i k c. row c k voted_yes) ∷ (λ i k c. row c k heard) ∷ (λ i k c. row c k heard_yes) ∷ (λ i k c. row c k written)
    ∷ (λ i k c. row c k terminating) ∷ (λ i k c. row c k decided) ∷ (λ i k c. row c k committed) ∷ (λ i k c. row c k (acked i)) ∷ (λ i k c. row c k (known i))
    ∷ (λ i k c. server_up c) ∷ (λ i k c. suspects c) ∷ (λ i k c. database_up c) ∷ (λ i k c. ready c) ∷ (λ i k c. client_up c) ∷ (λ i k c. phase c)
    ∷ (λ i k c. attempt c) ∷ (λ i k c. request c) ∷ (λ i k c. delivered c) ∷ []

name_at : ℕ → ℕ → ℕ → ℕ → Name
name_at t i k c = get_or names_by_tag t (λ i k c. server_up c) i k c

row_is : (c k : ℕ) (f : Field) → row c k f ≡ name_at (field_tag f) (field_server f) k c
unfolding name_at names_by_tag
row_is c k owner = refl
row_is c k outcome = refl
row_is c k value = refl
row_is c k computed = refl
row_is c k sent = refl
row_is c k voted = refl
row_is c k voted_yes = refl
row_is c k heard = refl
row_is c k heard_yes = refl
row_is c k written = refl
row_is c k terminating = refl
row_is c k decided = refl
row_is c k committed = refl
row_is c k (acked i) = refl
row_is c k (known i) = refl

name_is : (m : Name) → m ≡ name_at (tag m) (server_of m) (attempt_of m) (party_of m)
unfolding name_at names_by_tag
name_is (server_up i) = refl
name_is (suspects i) = refl
name_is (database_up d) = refl
name_is (ready d) = refl
name_is (client_up c) = refl
name_is (phase c) = refl
name_is (attempt c) = refl
name_is (request c) = refl
name_is (delivered c) = refl
name_is (row c k f) = row_is c k f

-- ---- what `same` says

pub same_equal : (m k : Name) → T (same m k) → m ≡ k
same_equal m k t =
    let (tags, more) = split (tag m) (tag k) (eqb (server_of m) (server_of k) && (eqb (attempt_of m) (attempt_of k) && eqb (party_of m) (party_of k))) t in
    let (servers, rest) = split (server_of m) (server_of k) (eqb (attempt_of m) (attempt_of k) && eqb (party_of m) (party_of k)) more in
    let (attempts, parties) = split_both (attempt_of m) (attempt_of k) (party_of m) (party_of k) rest in
    name_is m ∙ (λ j. name_at (tags j) (servers j) (attempts j) (parties j)) ∙ sym (name_is k)

pub equal_same : (m k : Name) → tag m ≡ tag k → server_of m ≡ server_of k → attempt_of m ≡ attempt_of k → party_of m ≡ party_of k → T (same m k)
equal_same m k tags servers attempts parties =
    join (tag m) (tag k) (eqb (server_of m) (server_of k) && (eqb (attempt_of m) (attempt_of k) && eqb (party_of m) (party_of k))) tags
    (join (server_of m) (server_of k) (eqb (attempt_of m) (attempt_of k) && eqb (party_of m) (party_of k)) servers
    (join_both (attempt_of m) (attempt_of k) (party_of m) (party_of k) attempts parties))

pub same_field_equal : (f g : Field) → T (same_field f g) → f ≡ g
same_field_equal f g t =
    let (tags, servers) = split_both (field_tag f) (field_tag g) (field_server f) (field_server g) t in
    field_is f ∙ (λ j. field_at (tags j) (servers j)) ∙ sym (field_is g)

pub equal_same_field : (f g : Field) → field_tag f ≡ field_tag g → field_server f ≡ field_server g → T (same_field f g)
equal_same_field f g = join_both (field_tag f) (field_tag g) (field_server f) (field_server g)
