-- A replay is left, whether its lines are at their end or not: what is out goes back, and the tunnel of a link that is being changed is set up
-- again.
use Rattle.std.specs.Prelude.{◌≡◌, ◌⊎◌, ℕ, List, [], ◌∷◌, slice_get, Option, Some, None}
use Rattle.il_machine.specs.declared.answer.Progress.{Progress}
use Rattle.il_machine.specs.World.{World}
use Rattle.act_text.specs.declared.act.TextAct.{TextAct}
use Rattle.play_forms.specs.Plans.{PlanValue}
use Rattle.audit_order.specs.declared.ends.LinkEnds.{LinkEnds}
use Rattle.audit_order.specs.Asked.{change_act}
use Rattle.audit_order.specs.Steps.{OrderValue}
use Rattle.audit_forms.specs.Audited.{Case, ComesNext}
use Rattle.run_audit.specs.Leading.{IsSince}

-- the act comes next, and was made; or it doesn't come next
abbrev pub IsTried : PlanValue → List Progress → Case → TextAct → OrderValue → World → OrderValue → World → Type 0
IsTried plan told x act order w next v =
    (((other : OrderValue) → ComesNext plan told order act other → ⊥) × (next ≡ order) × (v ≡ w))
    ⊎ (ComesNext plan told order act next × IsSince x act w v)

-- one after the other
abbrev pub AreTried : PlanValue → List Progress → Case → List TextAct → OrderValue → World → OrderValue → World → Type 0
AreTried plan told x [] order w next v = (next ≡ order) × (v ≡ w)
AreTried plan told x (act ∷ acts) order w next v =
    (between : OrderValue) × (middle : World) × IsTried plan told x act order w between middle × AreTried plan told x acts between middle next v

-- of the change of a link, from behind the drop of its tunnel up to where that is set up again
abbrev pub rejoining : Option LinkEnds → List TextAct
rejoining None = []
rejoining (Some ends) = change_act ends 3 ∷ change_act ends 4 ∷ change_act ends 5 ∷ []

-- P of what is at the place
abbrev pub HasThen : {F : Type 0} → (F → Type 0) → List F → ℕ → Type 0
HasThen {F} P entries place = (file : F) × (slice_get entries place ≡ Some file) × P file
