-- `text::Page::put_number` meets its contract.
use mathlib.Core.List.{append_assoc}
use Rattle.text.specs.Writing.{decimal}
use Rattle.text.proofs.Pages.{continues}
use Rattle.text.proofs.Page.put_number.Goals as goal

pub returns : goal.returns
unfolding decimal
returns c =
    simp append_assoc
    (continues _ _ _ _ _ c.put_digit.ensures
    (continues _ _ _ _ _ c.put_digit-2.ensures
    (continues _ _ _ _ _ c.put_digit-3.ensures
    (continues _ _ _ _ _ c.put_digit-4.ensures
    (continues _ _ _ _ _ c.put.ensures c.put-2.ensures)))))
