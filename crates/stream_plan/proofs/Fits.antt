-- The links into one component more fit.
use Rattle.std.proofs.Common.{◌≡◌, ℕ, ◌+◌, ◌<◌, ◌≤◌, List, length, take, get_or, Some, arith}
use Rattle.std.specs.Prelude.{slice_get}
use Rattle.std.proofs.lemmas.Option.{slice_get_within}
use Rattle.script_lang.specs.declared.play_line.PartLine.{PartLine}
use Rattle.play_forms.specs.declared.flow.Flow.{Flow}
use Rattle.play_forms.specs.declared.joint.Joint.{Joint}
use Rattle.play_forms.specs.Fitting.{AllFit, ComponentFits}
use Rattle.stream_plan.proofs.Lists.{more_at, slice_get_front, slice_get_take}

pub fit_more : (parts : List PartLine) (joints : List Joint) (flows : List Flow) (order : List ℕ) (n : ℕ) → AllFit parts joints flows (take n order) → n < length order
    → ((part : PartLine) → slice_get parts (get_or order n 0) ≡ Some part → ComponentFits joints flows (get_or order n 0) part)
    → AllFit parts joints flows (take (n + 1) order)
fit_more parts joints flows order n before inside here k place part e there =
    let h = slice_get_take order (n + 1) k place e in
    more_at order n 0 (λ place. (part : PartLine) → slice_get parts place ≡ Some part → ComponentFits joints flows place part)
    (λ i other below at part there. before i other part (slice_get_front order n i other below at) there) inside here k place h.0 h.1 part there

pub fit_all : (parts : List PartLine) (joints : List Joint) (flows : List Flow) (order : List ℕ) (n : ℕ) → AllFit parts joints flows (take n order) → length order ≤ n
    → AllFit parts joints flows order
fit_all parts joints flows order n fit end k place part e there =
    let inside = slice_get_within order k place e in
    fit k place part (slice_get_front order n k place (omega arith) e) there
