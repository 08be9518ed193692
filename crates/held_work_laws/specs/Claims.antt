-- A work that a claim gave, as its holder keeps it.
use Rattle.std.specs.Prelude.{◌≡◌, false, List, ◌++◌, [], ◌∷◌, Option, Some, Result, Ok, IsSomeAnd, slice_set}
use Rattle.omx_types.specs.declared.error.OmxError.{OmxError}
use Rattle.omx_types.specs.declared.handle.Handle.{Handle}
use Rattle.part_api.specs.Terms.{Terms}
use Rattle.il_machine.specs.World.{Stream, World, stream_of}
use Rattle.il_machine.specs.Answers.{component_named}
use Rattle.il_machine.specs.Claims.{Claimed, ClaimedWork, WorkSeen}
use Rattle.il_machine.specs.Whole.{HasDone}
use Rattle.held_work_laws.specs.Works.{AreOfWorld, HeldWork, seen_of}

-- the part of the work is that of the component that the handle names: of its kind, with its file
abbrev pub HasItsOwn : Handle → HeldWork → World → Type 0
HasItsOwn h x v = IsSomeAnd (component_named h v.components) (λ c. ((x.terms).kind ≡ c.settings.kind) × ((x.terms).file ≡ c.file))

-- it is the work that a claim of the component gave, which led to the world
pub record IsTaken (h : Handle) (x : HeldWork) (work : WorkSeen) (v : World) : Type 0 where
  pub terms : Terms
  pub handle : x.handle ≡ h
  pub seen : work ≡ seen_of terms x
  pub set_so : x.announces ≡ false → x.terms ≡ terms
  pub gone : (s : Stream) → stream_of h.generation v ≡ Some s → HasDone terms false s x.part
  pub own : HasItsOwn h x v
  pub unfailed : x.failed ≡ false
  pub headers : AreOfWorld v x.headers

-- a work that was given is kept so, or none was given
abbrev pub TakesBy : (HeldWork → Type 0) → Type 0 → Handle → Result Claimed OmxError → World → Type 0
TakesBy Keeps Else h (Ok (ClaimedWork work)) v = (x : HeldWork) × Keeps x × IsTaken h x work v
TakesBy Keeps Else h answer v = Else

-- a work that was given is held last
abbrev pub TakesWork : Handle → List HeldWork → List HeldWork → Result Claimed OmxError → World → Type 0
TakesWork h works news answer v = TakesBy (λ x. news ≡ works ++ x ∷ []) (news ≡ works) h answer v

-- a work that was given is held at the place of its component's number
abbrev pub TakesWorkAt : Handle → List (Option HeldWork) → List (Option HeldWork) → Result Claimed OmxError → World → Type 0
TakesWorkAt h works news answer v = TakesBy (λ x. news ≡ slice_set works h.generation (Some x)) (news ≡ works) h answer v
