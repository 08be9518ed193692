-- What a component has told is what was heard of it.
use Rattle.std.proofs.Common.{◌≡◌, ◌<◌, ℕ, Bool, false, List, [], ◌∷◌, map, slice_get, Some, option_map, refl, ◌∙◌, ap}
use Rattle.std.specs.Prelude.{filter}
use Rattle.il_machine.specs.declared.answer.Progress.{Progress}
use Rattle.il_machine.specs.World.{Component, Given, World, number_of, place_of}
use Rattle.il_machine.specs.Components.{is_given_to, no_progress, noted_by, progress_after, progress_of}
use Rattle.il_machine.specs.Queued.{notes_given}
use Rattle.play_model.specs.Play.{Play}
use Rattle.play_world_laws.specs.Cast.{components_of, script_place}
use Rattle.play_world_laws.specs.Telling.{heard, heard_of, progress_by}
use Rattle.play_graph.proofs.Naming.{named_at}
use Rattle.play_run.specs.Playing.{IsStanding, PlayingValue, cast}
use Rattle.play_run.proofs.Naming.{all_clients_in}

progress_by_is : (gs : List Given) (p : Progress) → progress_by (map (λ g. g.note) gs) p ≡ progress_after gs p
progress_by_is [] p = refl
progress_by_is (g ∷ gs) p = progress_by_is gs (noted_by g.note p)

pub heard_is : (w : World) (a : Component) → a.client_out ≡ false → heard w a ≡ progress_of a w
heard_is w a o = ap (λ (b : Bool). progress_by (heard_of b (notes_given (number_of a) w)) no_progress) o ∙ progress_by_is (filter (is_given_to (number_of a)) w.given) no_progress

module _ {S K : Type 0} where
  -- its client object is in
  pub client_there : (x : PlayingValue S K) (p : Play) (Z : IsStanding x p) (c : ℕ) → c < components_of (cast x.plan) → (a : Component) → slice_get Z.world.components (script_place (cast x.plan) c) ≡ Some a → a.client_out ≡ false
  client_there x p Z c b a e =
      let named : place_of a.handle Z.world.components ≡ Some (script_place (cast x.plan) c) = named_at Z.world (script_place (cast x.plan) c) a.handle ((Z.conducted).play).sound (ap (option_map (λ (d : Component). d.handle)) e) in
      all_clients_in x Z.clients Z.world Z.stands (script_place (cast x.plan) c) a.handle a named e
