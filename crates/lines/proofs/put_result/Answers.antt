-- `lines::put_result` meets its contract.
use Rattle.text.proofs.Pages.{continues}
use Rattle.lines.specs.Lines.{result_text}
use Rattle.lines.proofs.put_result.Goals as goal

pub returns : goal.returns
unfolding result_text
returns c = continues _ _ _ _ _ c.put.ensures (continues _ _ _ _ _ c.put-2.ensures c.put_line.ensures)
