use Rattle.std.proofs.Common.{[], ◌∷◌, All, sym, subst}
use Rattle.std.proofs.lemmas.List.Elements.{All-cons, All-nil}
use Rattle.board_bench.specs.Asking.{CanAsk}
use Rattle.board_bench.specs.declared.rows.Asker.{Asker}
use Rattle.board_bench.proofs.rows.time_turns.Goals as goal

pub for_each_mut-requires-clause-accepts : goal.for_each_mut-requires-clause-accepts
for_each_mut-requires-clause-accepts g c κs within =
    let P : Asker → Type 0 = λ a. CanAsk (λ told. told) c.args.board.now a.pass a.row in
    let one = c.hired.result in
    let two = c.hired-2.result in
    let three = c.hired-3.result in
    let four = c.hired-4.result in
    let last : All P (three ∷ four ∷ []) = All-cons P three (four ∷ []) c.hired-3.ensures.asker (All-cons P four [] c.hired-4.ensures.asker (All-nil P)) in
    let all : All P (one ∷ two ∷ three ∷ four ∷ []) = All-cons P one (two ∷ three ∷ four ∷ []) c.hired.ensures.asker (All-cons P two (three ∷ four ∷ []) c.hired-2.ensures.asker last) in
    let slice : All P c.as_mut_slice.result.now = subst (All P) (sym c.as_mut_slice.ensures.value) all in
    λ i p lt is. subst P (sym is) (slice i p.now lt)
