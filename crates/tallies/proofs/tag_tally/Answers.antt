use Prim.Native.Nat.{ℕ}
use native.Mathlib.Omega.{arith}
use mathlib.Core.Bool.{Bool}
use mathlib.Core.Path.{◌∙◌}
use Rattle.std.proofs.Common.{rules, tests}
use Rattle.std.proofs.lemmas.Iterator.{YieldsList-from_range}
use Rattle.std.proofs.lemmas.Iterator.Consumers.{count_from_yields_List, YieldsList-from_filter}
use Rattle.model.specs.declared.Sort.TheVariants.{Proposals}
use Rattle.model.specs.declared.Word.TheVariants.{Tag}
use Rattle.model.specs.Rack.{is}
use Rattle.model.specs.Rules.{seen}
use Rattle.tables.specs.Lent.{read}
use Rattle.tallies.specs.Heard.{heard_by}
use Rattle.tallies.proofs.CountLaws.{counted_all}
use Rattle.tallies.proofs.tag_tally.Goals as goal

pub returns : goal.returns
returns c = let args = c.args in let n = args.numbers.n in
    let passes : ℕ → Bool = λ d. is (Tag args.tag) (seen (heard_by args.numbers args.who args.slot 0 (read args.memory)) Proposals 0 d) in
    let senders = YieldsList-from_range 0 n n c.filter.ensures.source (omega arith) in
    count_from_yields_List c.filter.result _ c.count.ensures.ran
    (YieldsList-from_filter _ passes senders c.filter.ensures.closure (λ d b q h. search (rules, tests))) ∙ counted_all passes n
