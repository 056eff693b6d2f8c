use Rattle.nr_before.proofs.Leaving.{long_body, ok_body}
use Rattle.nr_before.proofs.behind.Behind.body.Goals as goal

pub returns-clause-body : goal.returns-clause-body
returns-clause-body c = ok_body c.encode.result (λ v. v.items) _ c.args.self.now c.self.view_is c.encode.ensures.body

pub returns-clause-long : goal.returns-clause-long
returns-clause-long c = long_body c.encode.result _ c.args.self.now c.self.view_is c.encode.ensures.long
