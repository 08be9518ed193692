use Rattle.std.proofs.Common.{◌∙◌, ◌≡◌, false, inl, inr, sym, true}
use Rattle.play_worker.proofs.Ending.{all_loaded, failed_now, loaded_more}
use Rattle.play_worker.proofs.Keeping.{numbered_at}
use Rattle.play_worker.proofs.worker.Worker.sees_end.Goals as goal
use Rattle.play_worker.proofs.worker.Worker.sees_end.Goals.{in-Loaded, in-Other}

pub returns-in-Failed-clause-ended : goal.returns-in-Failed-clause-ended
returns-in-Failed-clause-ended g c = λ yes.
    let seat = c.index-seats-place.result in
    let looked = c.in-Failed.ensures.looked in
    inr (
      seat,
      numbered_at c.args.seats.now c.loop-place.place seat c.requires.seats c.loop-place-test.true c.index-seats-place.is,
      failed_now c.loop-place.self.book c.sees.new.self.book seat.handle looked.0 c.in-Failed.ensures.number looked.1 looked.2,
    )

pub loop-place-preserved : goal.loop-place-preserved
loop-place-preserved g c = (
  c.sees.ensures.worker,
  c.sees.ensures.number ∙ c.loop-place.invariant.1,
  elim c.match-sees.branch [
    | in-Loaded w ↦ λ yes.
        let seat = c.index-seats-place.result in
        let looked = w.in-Loaded.ensures.looked in
        loaded_more c.args.seats.now c.loop-place.place seat c.loop-place.self.book c.sees.new.self.book looked.0 c.loop-place-test.true c.index-seats-place.is c.sees.ensures.number looked.1 looked.2
        (c.loop-place.invariant.2 (sym w.all_loaded-is ∙ yes))
    | in-Other w ↦ λ yes. let bad : false ≡ true = sym w.all_loaded-is ∙ yes in absurd cc
  ],
)

pub returns-clause-ended : goal.returns-clause-ended
returns-clause-ended g c = λ yes. inl (all_loaded c.args.seats.now c.loop-place.self.book c.loop-place.place c.loop-place-test.false (c.loop-place.invariant.2 yes))
