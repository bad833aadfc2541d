use Rattle.std.proofs.Common.{rules, arith}
use Rattle.chains.specs.Held.{buckets_in}
use Rattle.chains.proofs.Searches.{callable_while, last_found}
use Rattle.chain_cases.proofs.find.Goals as goal

pub find-requires-clause-callable : goal.find-requires-clause-callable
find-requires-clause-callable g c =
    callable_while _ _ (λ i v. g.F.Fn.post c.args.test (i, tt) v) (λ i v h k. search rules) (buckets_in c.args.chains.now) c.args.bucket _ c.bucket.ensures (λ i l _ y e. c.requires y.now (omega arith))

pub returns-clause-found : goal.returns-clause-found
returns-clause-found g c =
    (last_found _ _ (λ i v. g.F.Fn.post c.args.test (i, tt) v) (λ i v h k. search rules) (buckets_in c.args.chains.now) c.args.bucket _ _ _ c.bucket.ensures c.find.ensures.ran).0

pub returns-clause-none : goal.returns-clause-none
returns-clause-none g c =
    (last_found _ _ (λ i v. g.F.Fn.post c.args.test (i, tt) v) (λ i v h k. search rules) (buckets_in c.args.chains.now) c.args.bucket _ _ _ c.bucket.ensures c.find.ensures.ran).1
