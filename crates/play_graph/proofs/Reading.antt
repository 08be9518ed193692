-- A world that is read without its faults can be stopped where what is read can: what is looked at is the same there.
use Rattle.std.proofs.Common.{◌≡◌, ℕ, ◌≤◌, Bool, false, List, All, length, map, slice_get, Some, None, refl, sym, ◌∙◌, ap, arith}
use Rattle.std.proofs.lemmas.List.{length-map}
use Rattle.std.proofs.lemmas.List.Elements.{All-map}
use Rattle.il_machine.specs.declared.port.PortKey.{PortKey}
use Rattle.il_machine.specs.Sound.{Sound}
use Rattle.il_machine.specs.States.{is_invalid}
use Rattle.il_machine.specs.World.{Component, Stream, World}
use Rattle.machine_laws.proofs.Every.{from_places}
use Rattle.play_build_laws.specs.Halting.{AreStoppedTo, IsLinked}
use Rattle.play_build_laws.proofs.Linked.{Each, KeepsSeat, linked_kept}
use Rattle.play_forms.specs.Plans.{IsValid, PlanValue}
use Rattle.play_model.specs.Play.{Play}
use Rattle.play_world_laws.specs.PlayWorlds.{IsPlayWorld}
use Rattle.play_plan_laws.specs.Assemblies.{play_cast_of}
use Rattle.play_plan_laws.specs.Endings.{ends_of}
use Rattle.read_world_laws.specs.Inside.{inside, taken_in}
use Rattle.read_world_laws.specs.Mended.{mend, mended}
use Rattle.read_world_laws.proofs.Inside as ins
use Rattle.read_world_laws.proofs.Mended as mns
use Rattle.play_graph.specs.Stops.{HaveTunnels, HasNoneOut, HasStopped}
use Rattle.play_graph.proofs.Plays.{play_stops}

module _ (end : Bool → ℕ → PortKey) (links : ℕ) (ss : List Stream) (w : World) where
  read_at : (i : ℕ) (c : Component) → slice_get w.components i ≡ Some c → slice_get (inside (mend ss w)).components i ≡ Some (taken_in (mended c))
  read_at i c e = ins.get_in (mend ss w).components i (mended c) (mns.get_in ss w.components i c e)

  pub read_many : length (inside (mend ss w)).components ≡ length w.components
  read_many = length-map (map mended w.components) taken_in ∙ length-map w.components mended

  seats : Each KeepsSeat (inside (mend ss w)) w
  seats = record { many = sym read_many; each = λ i b e. (taken_in (mended b), read_at i b e, (record { number = refl; settings = refl; links = refl }, refl)) }

  pub read_linked : Sound w → All (λ (a : Component). a.work ≡ None) w.components → All (λ (a : Component). a.client_out ≡ false) w.components → IsLinked end links (inside (mend ss w)) → IsLinked end links w
  read_linked S W C L = linked_kept end links (inside (mend ss w)) w L seats S W C

  pub read_valid : AreStoppedTo 0 (inside (mend ss w)) → AreStoppedTo 0 w
  read_valid A = record { stopped = λ i a b e. absurd (omega (arith, b)); valid = λ i a b e. A.valid i (taken_in (mended a)) b (read_at i a e) }

module _ (plan : PlanValue) (V : IsValid plan) (recent : ℕ) (p : Play) (ss : List Stream) (w : World) where
  abbrev u : World
  u = inside (mend ss w)

  abbrev IsFree : Component → Type 0
  IsFree a = a.work ≡ None

  abbrev IsIn : Component → Type 0
  IsIn a = a.client_out ≡ false

  none_read : HasNoneOut w → HasNoneOut u
  none_read N = record {
    works = All-map IsFree taken_in (map mended w.components) (All-map IsFree mended w.components N.works);
    clients = All-map IsIn taken_in (map mended w.components) (from_places (λ (a : Component). IsIn (taken_in a)) (map mended w.components) (λ i a e. refl));
  }

  pub read_stops : IsPlayWorld (play_cast_of plan) recent p u → HaveTunnels (play_cast_of plan) p → Sound w → HasNoneOut w → HasStopped plan 0 w
  read_stops W T S N =
      let H = play_stops plan V recent p u W T (none_read N) in
      record {
        many = sym (read_many (ends_of plan) (length plan.joints) ss w) ∙ H.many;
        linked = read_linked (ends_of plan) (length plan.joints) ss w S N.works N.clients H.linked;
        stopped = read_valid (ends_of plan) (length plan.joints) ss w H.stopped;
      }
