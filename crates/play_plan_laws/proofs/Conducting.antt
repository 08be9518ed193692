-- The conductor's answers, by the model's phases.
use Rattle.std.proofs.Common.{◌≡◌, ℕ, zero, suc, ◌+◌, ◌<◌, ◌≤◌, Bool, true, false, not, ◌&&◌, ◌||◌, nat_eq, List, [], ◌∷◌, length, slice_get, Option, Some, refl, sym, ◌∙◌, ap, arith}
use Rattle.std.specs.List.{list_any}
use Rattle.omx_types.specs.declared.state.State.{State}
use Rattle.il_machine.specs.declared.answer.Progress.{Progress}
use Rattle.machine_laws.proofs.Accepting.{both_of}
use Rattle.machine_laws.proofs.Finding.{either}
use Rattle.conductor.specs.Hearing.{heard_view, heard_views}
use Rattle.conductor.specs.Phases.{is_at, sinks_over, all_states}
use Rattle.play_world_laws.specs.Standing.{target}
use Rattle.play_world_laws.specs.Telling.{last_told}

-- ---- one component

-- the last state told is that of the phase only where it was told
pub told_stage : (phase stage : ℕ) → 1 ≤ phase → phase ≤ 4 → stage ≤ 4 → is_at (target phase) (last_told phase stage) ≡ nat_eq stage 4
told_stage zero stage l h s = absurd (omega arith)
told_stage (suc (suc (suc (suc (suc k))))) stage l h s = absurd (omega arith)
told_stage phase (suc (suc (suc (suc (suc k))))) l h s = absurd (omega arith)
told_stage (suc zero) zero l h s = refl
told_stage (suc zero) (suc zero) l h s = refl
told_stage (suc zero) (suc (suc zero)) l h s = refl
told_stage (suc zero) (suc (suc (suc zero))) l h s = refl
told_stage (suc zero) (suc (suc (suc (suc zero)))) l h s = refl
told_stage (suc (suc zero)) zero l h s = refl
told_stage (suc (suc zero)) (suc zero) l h s = refl
told_stage (suc (suc zero)) (suc (suc zero)) l h s = refl
told_stage (suc (suc zero)) (suc (suc (suc zero))) l h s = refl
told_stage (suc (suc zero)) (suc (suc (suc (suc zero)))) l h s = refl
told_stage (suc (suc (suc zero))) zero l h s = refl
told_stage (suc (suc (suc zero))) (suc zero) l h s = refl
told_stage (suc (suc (suc zero))) (suc (suc zero)) l h s = refl
told_stage (suc (suc (suc zero))) (suc (suc (suc zero))) l h s = refl
told_stage (suc (suc (suc zero))) (suc (suc (suc (suc zero)))) l h s = refl
told_stage (suc (suc (suc (suc zero)))) zero l h s = refl
told_stage (suc (suc (suc (suc zero)))) (suc zero) l h s = refl
told_stage (suc (suc (suc (suc zero)))) (suc (suc zero)) l h s = refl
told_stage (suc (suc (suc (suc zero)))) (suc (suc (suc zero))) l h s = refl
told_stage (suc (suc (suc (suc zero)))) (suc (suc (suc (suc zero)))) l h s = refl

pub next_state : (phase : ℕ) (state : State) → slice_get all_states phase ≡ Some state → (phase < 4) × (state ≡ target (phase + 1))
next_state zero state e = (omega arith, cc)
next_state (suc zero) state e = (omega arith, cc)
next_state (suc (suc zero)) state e = (omega arith, cc)
next_state (suc (suc (suc zero))) state e = (omega arith, cc)
next_state (suc (suc (suc (suc k)))) state e = absurd cc

pub state_next : (phase : ℕ) → phase < 4 → slice_get all_states phase ≡ Some (target (phase + 1))
state_next zero l = refl
state_next (suc zero) l = refl
state_next (suc (suc zero)) l = refl
state_next (suc (suc (suc zero))) l = refl
state_next (suc (suc (suc (suc k)))) l = absurd (omega arith)

-- ---- lists

pub none_of : {X : Type 0} (test : X → Bool) (xs : List X) → ((i : ℕ) (y : X) → slice_get xs i ≡ Some y → test y ≡ false) → list_any test xs ≡ false
none_of test [] h = refl
none_of test (y ∷ xs) h = rw (h 0 y refl) (none_of test xs (λ i z e. h (suc i) z e))

pub over_at : (sinks : List Bool) (told : List Progress) (i : ℕ) (sink : Bool) (y : Progress) → sinks_over sinks told ≡ true → slice_get sinks i ≡ Some sink → slice_get told i ≡ Some y → sink ≡ true → y.eos ≡ true
over_at [] told i sink y h e f s = absurd cc
over_at (b ∷ sinks) [] i sink y h e f s = absurd cc
over_at (b ∷ sinks) (z ∷ told) zero sink y h e f s =
    let k : b ≡ sink = cc in
    let is : z ≡ y = cc in
    let t = both_of (not b || z.eos) (sinks_over sinks told) h in
    let u : (not true || z.eos) ≡ true = ap (λ (q : Bool). not q || z.eos) (sym s ∙ sym k) ∙ t.0 in
    ap (λ (q : Progress). q.eos) (sym is) ∙ u
over_at (b ∷ sinks) (z ∷ told) (suc i) sink y h e f s = over_at sinks told i sink y (both_of (not b || z.eos) (sinks_over sinks told) h).1 e f s

pub at_over : (sinks : List Bool) (told : List Progress) → ((i : ℕ) (sink : Bool) (y : Progress) → slice_get sinks i ≡ Some sink → slice_get told i ≡ Some y → sink ≡ true → y.eos ≡ true) → sinks_over sinks told ≡ true
at_over [] told h = refl
at_over (b ∷ sinks) [] h = refl
at_over (b ∷ sinks) (z ∷ told) h =
    let rest = at_over sinks told (λ i s y e f u. h (suc i) s y e f u) in
    let first : (not b || z.eos) ≡ true = either b (λ t. ap (λ (q : Bool). not q || z.eos) t ∙ h 0 b z refl refl t) (λ t. ap (λ (q : Bool). not q || z.eos) t) in
    λ i. first i && rest i

pub views_many : (olds : List Progress) (views : List (Option Progress)) → length olds ≡ length views → length (heard_views olds views) ≡ length olds
views_many [] views e = refl
views_many (y ∷ olds) [] e = absurd (omega arith)
views_many (y ∷ olds) (v ∷ views) e = ap suc (views_many olds views (omega arith))

pub view_at : (olds : List Progress) (views : List (Option Progress)) (i : ℕ) (old : Progress) (view : Option Progress) → slice_get olds i ≡ Some old → slice_get views i ≡ Some view → slice_get (heard_views olds views) i ≡ Some (heard_view old view)
view_at [] views i old view e f = absurd cc
view_at (y ∷ olds) [] i old view e f = absurd cc
view_at (y ∷ olds) (v ∷ views) zero old view e f = let s : y ≡ old = cc in let t : v ≡ view = cc in λ i. Some (heard_view (s i) (t i))
view_at (y ∷ olds) (v ∷ views) (suc i) old view e f = view_at olds views i old view e f
