-- A work that is out, as its holder sees it.
use Rattle.std.specs.Prelude.{◌≡◌, ℕ, Bool, false, nat_eq, List, All, Some, Ok, is_some, option_and_then}
use Rattle.il_machine.specs.Kinds.{is_auto}
use Rattle.il_machine.specs.Settings.{formats_of}
use Rattle.il_machine.specs.World.{Component, HeaderRecord, Stream, Work, World, component_numbered, stream_of}
use Rattle.il_machine.specs.Headers.{find_header}
use Rattle.il_machine.specs.Claims.{CarriedHeader, ClaimedWork, WorkSeen, carried, terms_in}
use Rattle.il_machine.specs.Acts.{Act, Reply}
use Rattle.il_machine.specs.Acts as acts

-- no port is held, and the format of each is known
pub record AreKnown (c : Component) : Type 0 where
  pub held : All (λ p. p.held ≡ false) c.ports
  pub formats : All (λ f. is_auto f ≡ false) (formats_of c.settings.ports)

-- The work that its holder sees is out in the world: its headers carry what they carried at the claim, and so much has gone through its
-- part, which has its kind and its file still and didn't fail. Where it isn't an announcement, its part's terms are as they were.
pub record IsHeldOut (w : World) (x : WorkSeen) (s : Stream) : Type 0 where
  pub component : Component
  pub work : Work
  pub there : component_numbered x.component w ≡ Some component
  pub out : component.work ≡ Some work
  pub announces : work.announces ≡ x.announces
  pub kind : component.settings.kind ≡ (x.terms).kind
  pub file : component.file ≡ (x.terms).file
  pub failed : (component.part).failed ≡ false
  pub headers : carried w.headers work.headers ≡ x.headers
  pub terms : x.announces ≡ false → (terms_in component work ≡ x.terms) × AreKnown component
  pub stream : stream_of x.component w ≡ Some s

-- what is known of the header of the work, and what it carries
abbrev pub HeaderStays : List HeaderRecord → List HeaderRecord → CarriedHeader → Type 0
HeaderStays old new x = find_header x.header.number new ≡ find_header x.header.number old

-- the act brought the work of the component of the number back
abbrev pub returns_work : ℕ → Act → Reply → Bool
returns_work number (acts.Finish done) acts.Finished = nat_eq done.component number
returns_work number _ _ = false

-- the act took the work of the component of the number out
abbrev pub takes_work : ℕ → Act → Reply → Bool
takes_work number (acts.Claim h) (acts.Claimed (Ok (ClaimedWork work))) = nat_eq h.generation number
takes_work number _ _ = false

-- the work of the component of the number is out
abbrev pub has_work_out : ℕ → World → Bool
has_work_out number w = is_some (option_and_then (λ c. c.work) (component_numbered number w))
