-- A line is read as numbers exactly where it is their text.
use mathlib.Core.Logic.{◌↔◌}
use mathlib.Core.Path.{◌≡◌, refl, sym, subst, ◌∙◌}
use mathlib.Core.List.{List, [], ◌∷◌, ◌++◌, append_assoc}
use mathlib.Core.Option.{Option, none, some, none-ne-some, some-injective}
use Prim.Native.Nat.{ℕ, ◌+◌, ◌≤◌}
use native.Mathlib.Omega.{arith}
use lib.ListN.{length, length-append}
use Rattle.protocol.specs.declared.Counts.{Counts}
use Rattle.protocol.specs.declared.Event.{Event}
use Rattle.text.specs.Writing.{space, newline, decimal, line}
use Rattle.text.specs.Reading.{most, read_number}
use Rattle.text.proofs.Inverse.{written_read, line_read, line_end, line_long}
use Rattle.lines.specs.Lines.{and_then, read_counts, read_event, counts_text, CountsFit, event_text, EventFits}

-- ---- one number of a line

-- what was made of a number was made of one that stands there: show it for that
module _ {X P : Type 0} (x : X) where
  made : (read : Option (ℕ × List ℕ)) (next : ℕ → List ℕ → Option X) → and_then read next ≡ some x
      → ((n : ℕ) (rest : List ℕ) → read ≡ some (n, rest) → next n rest ≡ some x → P) → P
  made none next e show = absurd (none-ne-some x e)
  made (some found) next e show = show found.0 found.1 refl e

  module _ (text : List ℕ) (next : ℕ → List ℕ → Option X) where
    taken : (end : ℕ) → and_then (read_number end text) next ≡ some x
        → ((n : ℕ) (rest : List ℕ) → n ≤ most → text ≡ decimal n ++ (end ∷ rest) → next n rest ≡ some x → P) → P
    taken end e show =
        made (read_number end text) next e (λ n rest found onward.
        let (fits, written) = written_read end text n rest found in
        show n rest fits written onward)

    spaced : and_then (read_number space text) next ≡ some x
        → ((n : ℕ) (rest : List ℕ) → n ≤ most → text ≡ decimal n ++ (space ∷ rest) → next n rest ≡ some x → P) → P
    spaced = taken space

    ended : and_then (read_number newline text) next ≡ some x
        → ((n : ℕ) (rest : List ℕ) → n ≤ most → text ≡ decimal n ++ (newline ∷ rest) → next n rest ≡ some x → P) → P
    ended = taken newline

none_when : {X : Type 0} (read : Option X) → ((x : X) → read ≡ some x → ⊥) → read ≡ none
none_when none never = refl
none_when (some x) never = absurd (never x refl)

-- ---- a first line

pub counts_read : (n : Counts) (rest : List ℕ) → CountsFit n → read_counts (counts_text n ++ rest) ≡ some (n, rest)
unfolding read_counts
counts_read n rest fits =
    rw (
      line_read n.clients fits.clients rest,
      line_read n.servers fits.servers rest,
      line_read n.databases fits.databases rest,
      line_end n.attempts fits.attempts rest,
    )

pub counts_written : (text : List ℕ) (n : Counts) (rest : List ℕ) → read_counts text ≡ some (n, rest)
    → CountsFit n × (text ≡ counts_text n ++ rest)
unfolding read_counts line
counts_written text n rest read =
    spaced (n, rest) text _ read (λ clients servers-on clients-fit clients-text read.
    spaced (n, rest) servers-on _ read (λ servers databases-on servers-fit servers-text read.
    spaced (n, rest) databases-on _ read (λ databases attempts-on databases-fit databases-text read.
    ended (n, rest) attempts-on _ read (λ attempts behind attempts-fit attempts-text read.
    subst (λ (found : Counts × List ℕ). CountsFit found.0 × (text ≡ counts_text found.0 ++ found.1))
    (some-injective _ _ read) (
      record { clients = clients-fit; servers = servers-fit; databases = databases-fit; attempts = attempts-fit },
      rw (clients-text, servers-text, databases-text, attempts-text) (simp append_assoc),
    )))))

pub counts_malformed : (text : List ℕ) → (read_counts text ≡ none) ↔ ((n : Counts) (rest : List ℕ) → CountsFit n → text ≡ counts_text n ++ rest → ⊥)
counts_malformed text = (
  λ e n rest fits is. none-ne-some (n, rest) (sym e ∙ rw is (counts_read n rest fits)),
  λ never. none_when (read_counts text) λ x e. let is = counts_written text x.0 x.1 e in never x.0 x.1 is.0 is.1,
)

pub counts_shorter : (text : List ℕ) (n : Counts) (rest : List ℕ) → read_counts text ≡ some (n, rest) → length rest + 8 ≤ length text
counts_shorter text n rest read =
    rw (counts_written text n rest read).1
    (simp length-append (omega (arith, line_long (n.clients ∷ n.servers ∷ n.databases ∷ n.attempts ∷ []))))

-- ---- an event line

pub event_read : (e : Event) (rest : List ℕ) → EventFits e → read_event (event_text e ++ rest) ≡ some (e, rest)
unfolding read_event
event_read e rest fits =
    rw (
      line_read e.kind fits.kind rest,
      line_read e.client fits.client rest,
      line_read e.attempt fits.attempt rest,
      line_read e.server fits.server rest,
      line_read e.database fits.database rest,
      line_end e.value fits.value rest,
    )

pub event_written : (text : List ℕ) (e : Event) (rest : List ℕ) → read_event text ≡ some (e, rest)
    → EventFits e × (text ≡ event_text e ++ rest)
unfolding read_event line
event_written text e rest read =
    spaced (e, rest) text _ read (λ kind client-on kind_fits kind-text read.
    spaced (e, rest) client-on _ read (λ client attempt-on client-fits client-text read.
    spaced (e, rest) attempt-on _ read (λ attempt server-on attempt-fits attempt-text read.
    spaced (e, rest) server-on _ read (λ server database-on server-fits server-text read.
    spaced (e, rest) database-on _ read (λ database value-on database-fits database-text read.
    ended (e, rest) value-on _ read (λ value behind value-fits value-text read.
    subst (λ (found : Event × List ℕ). EventFits found.0 × (text ≡ event_text found.0 ++ found.1))
    (some-injective _ _ read) (
      record {
        kind = kind_fits;
        client = client-fits;
        attempt = attempt-fits;
        server = server-fits;
        database = database-fits;
        value = value-fits;
      },
      rw (kind-text, client-text, attempt-text, server-text, database-text, value-text) (simp append_assoc),
    )))))))

pub event_malformed : (text : List ℕ) → (read_event text ≡ none) ↔ ((e : Event) (rest : List ℕ) → EventFits e → text ≡ event_text e ++ rest → ⊥)
event_malformed text = (
  λ f e rest fits is. none-ne-some (e, rest) (sym f ∙ rw is (event_read e rest fits)),
  λ never. none_when (read_event text) λ x f. let is = event_written text x.0 x.1 f in never x.0 x.1 is.0 is.1,
)

pub event_shorter : (text : List ℕ) (e : Event) (rest : List ℕ) → read_event text ≡ some (e, rest) → length rest + 12 ≤ length text
event_shorter text e rest read =
    rw (event_written text e rest read).1
    (simp length-append (omega (arith, line_long (e.kind ∷ e.client ∷ e.attempt ∷ e.server ∷ e.database ∷ e.value ∷ []))))
