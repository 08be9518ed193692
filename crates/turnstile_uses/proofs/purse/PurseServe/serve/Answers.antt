use Rattle.std.proofs.Common.{◌∙◌, sym}
use Rattle.std.proofs.Common.{subst}
use Rattle.std.proofs.lemmas.Option.{none-some}
use Rattle.turnstile.specs.Entries.{own}
use Rattle.turnstile_uses.specs.declared.coin.Ask.TheVariants.{Back}
use Rattle.turnstile_uses.specs.Runs.{May}
use Rattle.turnstile_uses.proofs.Holding.{runs_can}
use Rattle.turnstile_uses.proofs.Purses.{takes, backs, counts}
use Rattle.turnstile_uses.proofs.purse.PurseServe.serve.Goals as goal

pub returns-in-Take : goal.returns-in-Take
returns-in-Take c = λ first log pass due. let r = takes first.coin c.args.self.now.coin c.take.result c.take.new.self log pass c.args.act c.in-Take.is c.take.ensures.value c.take.ensures.after due.stood.0 in ((c.take.new.self, r), (r, counts log _ c.args.place due.at_place))

pub returns-in-None : goal.returns-in-None
returns-in-None c = λ first log pass due. let r = backs first.coin c.args.self.now.coin c.replace.new.self c.in-Back.coin log pass c.args.act c.in-Back.is (sym c.in-None.ensures.value) c.in-None.ensures.after due.stood.0 in ((c.replace.new.self, r), (r, counts log _ c.args.place due.at_place))

pub unreachable-requires : goal.unreachable-requires
unreachable-requires c = let r = c.requires in let coin = c.in-Back.coin in
    let out = runs_can r.0.coin r.1 c.args.self.now.coin (Back coin) r.2 r.3.stood.0 r.3.met (subst (λ a. May (own r.2 r.1) a) c.in-Back.is r.3.may_ask) in
    none-some c.in-Some.field-0 (sym out ∙ (sym c.in-Some.ensures.value))
