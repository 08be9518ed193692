use Rattle.graph_acts.specs.Plain.{sight_of}
use Rattle.play_workers.proofs.Threads.{threads_hands, threads_run}
use Rattle.play_workers.proofs.running.run_all.Goals as goal

pub run_hands-requires-clause-hands : goal.run_hands-requires-clause-hands
run_hands-requires-clause-hands g c κs within = λ k d lt. (threads_hands g.G.Gate.counts (sight_of g.C.Client g.S.Source g.K.Sink) c.args.board.now c.args.plan.now c.args.seats.now 1 c.args.hands.items c.requires.threads k d lt, c.requires.start k d lt)

pub returns-clause-threads : goal.returns-clause-threads
returns-clause-threads g c = threads_run g.G.Gate.counts (sight_of g.C.Client g.S.Source g.K.Sink) c.args.board.now c.args.plan.now c.args.seats.now 1 c.args.hands.items c.run_hands.result.items c.requires.threads c.run_hands.ensures.many c.run_hands.ensures.hands c.run_hands.ensures.stay
