-- `lines::put_client` meets its contract.
use Rattle.text.proofs.Pages.{continues}
use Rattle.lines.specs.Lines.{client_text}
use Rattle.lines.proofs.put_client.Goals as goal

pub returns : goal.returns
unfolding client_text
returns c = continues _ _ _ _ _ c.put.ensures (continues _ _ _ _ _ c.put-2.ensures c.put_line.ensures)
