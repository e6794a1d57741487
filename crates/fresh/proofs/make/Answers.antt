-- `fresh::make` meets its contract.
use mathlib.Core.Path.{◌∙◌}
use native.Mathlib.Omega.{arith}
use Rattle.fresh.proofs.Laws.{servers_first, databases_first, clients_first, parties_inside, made}
use Rattle.fresh.proofs.make.Goals as goal

pub raise-requires : goal.raise-requires
raise-requires c =
    let n = c.args.counts in (
      omega arith,
      omega (
        arith,
        c.server_at.ensures n,
        servers_first n,
        parties_inside n,
        c.requires,
        c.fill.auto.self,
        c.write_header.auto.table,
      ),
    )

pub returns : goal.returns
returns c =
    let n = c.args.counts in
    c.raise-3.ensures
    ∙ rw (
      c.client_at.ensures ∙ clients_first n,
      c.raise-2.ensures,
      c.database_at.ensures ∙ databases_first n,
      c.raise.ensures,
      c.server_at.ensures n ∙ servers_first n,
      c.write_header.ensures,
      c.fill.ensures.after (λ y e. e),
    )
    (made n c.args.table.now c.requires)
