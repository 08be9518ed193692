use Rattle.std.proofs.Common.{◌<◌, ℕ, List, All, subst}
use Rattle.il_graph.specs.Shown.{offered}
use Rattle.play_plan_laws.specs.Assemblies.{play_cast_of}
use Rattle.play_graph.proofs.Standing.{few_links}
use Rattle.play_run.specs.Playing.{PlayingValue}
use Rattle.play_run.proofs.Beginning.{can_play, frames_small, has_begun, opens_so}
use Rattle.play_run.proofs.playing.Playing.new.Goals as goal

pub new-requires : goal.new-requires
new-requires g c = c.requires.files.ready.valid.most

pub slots_of-requires : goal.slots_of-requires
slots_of-requires g c = few_links c.args.plan c.requires.files.files c.requires.files.ready

pub returns-clause-ready : goal.returns-clause-ready
returns-clause-ready g c =
    let plan = c.args.plan in
    let given = c.requires.files.files in
    let O = opens_so plan (offered g.S.Source.offset g.S.Source.size g.S.Source.told g.K.Sink.told) c.args.files.now c.in_ok-graph.graph c.in_ok-graph.ensures.made c.law_of_worlds.ensures.out given c.requires.files.ready c.requires.files.offered in
    let words = subst (λ (xs : List ℕ). All (λ (n : ℕ). n < 18446744073709551616) xs) c.frames.ensures c.law_of_words.ensures in
    let x : PlayingValue g.row.S.Denot g.row.K.Denot = record { graph = c.in_ok-graph.graph; plan = plan; conductor = c.in_ok-conductor.conductor; log = c.in_ok-log.log } in
    can_play x given O c.in_ok-conductor.ensures c.law_of_worlds.ensures.closed c.in_ok-log.ensures.history (λ recent p w W e k C E. c.law_of_begun_streams.ensures.opened (play_cast_of plan) k recent p w W e C E) (frames_small plan words)

pub returns-clause-begun : goal.returns-clause-begun
returns-clause-begun g c = λ given ready offers.
    let plan = c.args.plan in
    let O = opens_so plan (offered g.S.Source.offset g.S.Source.size g.S.Source.told g.K.Sink.told) c.args.files.now c.in_ok-graph.graph c.in_ok-graph.ensures.made c.law_of_worlds.ensures.out given ready offers in
    let x : PlayingValue g.row.S.Denot g.row.K.Denot = record { graph = c.in_ok-graph.graph; plan = plan; conductor = c.in_ok-conductor.conductor; log = c.in_ok-log.log } in
    has_begun x given O c.in_ok-conductor.ensures c.law_of_worlds.ensures.closed c.in_ok-log.ensures.history (λ recent p w W e k C E. c.law_of_begun_streams.ensures.opened (play_cast_of plan) k recent p w W e C E)
