-- A read puts its bytes behind those that the input gave before.
use Rattle.std.proofs.Common.{rules, ◌≡◌, ◌+◌, ◌≤◌, ℕ, List, ◌++◌, length, take, sym, ap, ◌∙◌, subst, length-take-le}
use Rattle.std.proofs.lemmas.List.{take-append-le}
use Rattle.std.proofs.Math.Seq.{take-append-add}
use Rattle.std.specs.Io.KnownBytes.{Consumes}
use Rattle.std.proofs.KnownBytes.{Consumes-trans}
use borrow.Rule.Slice.PartMut.{put_mid, post_of}
use Rattle.printing.proofs.read_input.Goals as goal

-- the front of the room after n bytes were put behind its first `filled`
front : (filled k n : ℕ) (room part : List ℕ) → filled ≤ length room → n ≤ length part → take (filled + n) (put_mid filled k room part) ≡ take filled room ++ take n part
front filled k n room part within fits =
    let behind = post_of filled k room in
    ap (λ m. take (m + n) (put_mid filled k room part)) (sym (length-take-le filled room within))
    ∙ take-append-add (take filled room) (part ++ behind) n ∙ ap (λ l. take filled room ++ l) (take-append-le n part behind fits)

pub loop-filled-preserved : goal.loop-filled-preserved
loop-filled-preserved g c =
    let before = c.loop-filled.invariant in
    let read = c.in_ok-more.ensures in (
      search rules,
      subst (Consumes _ _) (sym (front c.loop-filled.filled _ c.in_ok-more.more c.loop-filled.room c.read.new.buf before.0 read.bound.0))
          (Consumes-trans _ _ _ _ _ before.1 read.bytes.0),
    )
