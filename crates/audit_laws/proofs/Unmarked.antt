-- No header of a work has a mark where none of the world has.
use Rattle.std.proofs.Common.{◌≡◌, ℕ, Bool, true, false, List, [], ◌∷◌, map, Option, Some, None, refl, sym, ◌∙◌, subst}
use Rattle.std.specs.Prelude.{MatchOption}
use Rattle.omx_types.specs.declared.fault.PartFault.{PartFault}
use Rattle.part_api.specs.Streams.{Incoming}
use Rattle.part_api.specs.Terms.{Terms}
use Rattle.il_machine.specs.Acts as acts
use Rattle.il_machine.specs.Claims.{CarriedHeader, carried, carried_by, terms_in}
use Rattle.il_machine.specs.Headers.{find_header}
use Rattle.il_machine.specs.Run.{Meets}
use Rattle.il_machine.specs.Stepping.{IsDoneBy, IsDoneOf, IsStepBy, WorkDone, is_in, stepped}
use Rattle.il_machine.specs.World.{Component, HeaderRecord, Picked, Stream, Work, World, component_numbered, stream_of}
use Rattle.machine_laws.proofs.Finding.{either}
use Rattle.bare_run_laws.specs.Bare.{IsUnmarked}

-- the header of no record has one
abbrev pub AreUnmarked : List HeaderRecord → Type 0
AreUnmarked headers = (n : ℕ) (r : HeaderRecord) → find_header n headers ≡ Some r → r.load.mark ≡ None

step_mark : (t : Terms) (frames : ℕ) (came : Incoming) (over : Bool) (x : CarriedHeader) → (stepped t frames came over x).header.mark ≡ x.header.mark
step_mark t frames came over x = either (is_in t x) (λ e. rw e refl) (λ e. rw e refl)

stepped_unmarked : (t : Terms) (frames : ℕ) (came : Incoming) (over : Bool) (xs : List CarriedHeader) → IsUnmarked xs → IsUnmarked (map (stepped t frames came over) xs)
stepped_unmarked t frames came over [] U = tt
stepped_unmarked t frames came over (x ∷ xs) U = (step_mark t frames came over x ∙ U.0, stepped_unmarked t frames came over xs U.1)

carried_unmarked : (headers : List HeaderRecord) → AreUnmarked headers → (picks : List Picked) → IsUnmarked (carried headers picks)
carried_unmarked headers N [] = tt
carried_unmarked headers N (x ∷ xs) = by (find_header x.number headers) refl (carried_unmarked headers N xs)
  where
    by : (o : Option HeaderRecord) → find_header x.number headers ≡ o → IsUnmarked (carried headers xs) → IsUnmarked (carried_by x.port o (carried headers xs))
    by None e rest = rest
    by (Some r) e rest = (N x.number r e, rest)

step_unmarked : (o : Option PartFault) (t : Terms) (s : Stream) (xs : List CarriedHeader) (done : WorkDone) → IsUnmarked xs → IsStepBy o t s xs done → IsUnmarked done.headers
step_unmarked None t s xs done U (piece, gives, frames, headers, took) = subst IsUnmarked (sym headers) (stepped_unmarked t _ _ _ xs U)
step_unmarked (Some fault) t s xs done U (of, frames, headers, took) = subst IsUnmarked (sym headers) U

done_unmarked : (b : Bool) (w : World) (c : Component) (work : Work) (done : WorkDone) → AreUnmarked w.headers → IsDoneBy b w c work done → IsUnmarked done.headers
done_unmarked true w c work done N D = subst IsUnmarked (sym D.2) tt
done_unmarked false w c work done N D = by (stream_of done.component w) D
  where
    by : (o : Option Stream) → MatchOption o ⊥ (λ s. IsStepBy done.fault (terms_in c work) s (carried w.headers work.headers) done) → IsUnmarked done.headers
    by None d = absurd d
    by (Some s) d = step_unmarked done.fault (terms_in c work) s (carried w.headers work.headers) done (carried_unmarked w.headers N work.headers) d

pub met_unmarked : (w : World) (done : WorkDone) → AreUnmarked w.headers → Meets w (acts.Finish done) → IsUnmarked done.headers
met_unmarked w done N M = by (component_numbered done.component w) M
  where
    of : (c : Component) (o : Option Work) → MatchOption o ⊥ (λ work. IsDoneOf w c work done) → IsUnmarked done.headers
    of c None d = absurd d
    of c (Some work) d = done_unmarked work.announces w c work done N d

    by : (o : Option Component) → MatchOption o ⊥ (λ c. MatchOption c.work ⊥ (λ work. IsDoneOf w c work done)) → IsUnmarked done.headers
    by None d = absurd d
    by (Some c) d = of c c.work d
