-- A plan's play with late sources that is over, by the ends of the plan's links.
use Rattle.std.proofs.Common.{◌≡◌, ℕ, ◌<◌, Bool, true, false, not, length, slice_get, sym, ◌∙◌, ap, subst, arith}
use Rattle.std.proofs.lemmas.Option.{slice_get-get_or}
use Rattle.il_machine.specs.declared.port.PortKey.{PortKey}
use Rattle.il_machine.specs.World.{Component, World}
use Rattle.play_build_laws.specs.Dismantling.{AreLinks, HasEnd, IsParted}
use Rattle.play_forms.specs.Flows.{no_flow}
use Rattle.play_forms.specs.Plans.{IsValid, PlanValue}
use Rattle.play_model.specs.Play.{Play}
use Rattle.play_model.specs.Reached.{IsOver}
use Rattle.play_world_laws.specs.Cast.{Cast, links_of}
use Rattle.play_plan_laws.specs.Casting.{IsLinkCast, flow_of, joint_of, no_joint}
use Rattle.play_plan_laws.proofs.Casts.{plan_has_cast}
use Rattle.play_plan_laws.specs.Assemblies.{play_cast_of}
use Rattle.play_plan_laws.specs.Endings.{IsPlayedOut, ends_of}
use Rattle.play_world_laws.specs.PlayWorlds.{IsPlayWorld}
use Rattle.play_turn_laws.specs.Sides.{sides_of}
use Rattle.play_turn_laws.proofs.Ending.{all_at_end, joined_all, links_are}

-- ---- links by the same ends

module _ (end other : Bool → ℕ → PortKey) (links : ℕ) (same : (side : Bool) (l : ℕ) → l < links → end side l ≡ other side l) where
  links_by : AreLinks end links → AreLinks other links
  links_by L = record {
    one = λ s t k l a b e. L.one s t k l a b (same s k a ∙ (e ∙ sym (same t l b)));
    apart = λ l b e. L.apart l b (ap (λ (k : PortKey). k.component) (same false l b) ∙ (e ∙ ap (λ (k : PortKey). k.component) (sym (same true l b))));
  }

  end_by : (side : Bool) (l : ℕ) (a : Component) → l < links → HasEnd end side l a → HasEnd other side l a
  end_by side l a b E =
      let e : (other side l).port ≡ (end side l).port = ap (λ (k : PortKey). k.port) (sym (same side l b)) in
      record {
        setting = E.setting;
        set = ap (slice_get a.settings.ports) e ∙ E.set;
        direction = E.direction;
        state = E.state;
        there = ap (slice_get a.ports) e ∙ E.there;
        link = E.link;
        joined = E.joined;
        peer = E.peer ∙ same (not side) l b;
      }

  parted_by : (w : World) → IsParted end links 0 w → IsParted other links 0 w
  parted_by w P = record {
    quiet = P.quiet;
    inside = λ side l b. subst (λ (k : PortKey). k.component < length w.components) (same side l b) (P.inside side l b);
    joined = λ side l a n b e. end_by side l a b (P.joined side l a n b (ap (λ (k : PortKey). slice_get w.components k.component) (same side l b) ∙ e));
    only = λ i port a s e f t.
        let E = P.only i port a s e f t in
        record { side = E.side; number = E.number; later = E.later; below = E.below; is = sym (same E.side E.number E.below) ∙ E.is };
  }

-- ---- of a plan

module _ (plan : PlanValue) (V : IsValid plan) where
  abbrev x : Cast
  x = (play_cast_of plan).cast

  link_is : (l : ℕ) → l < links_of x → IsLinkCast plan x l (joint_of plan l) (flow_of plan l)
  link_is l b =
      let n = V.flows in
      (plan_has_cast plan (λ k. false) V).joints l (joint_of plan l) (flow_of plan l) (slice_get-get_or plan.joints l no_joint b) (slice_get-get_or plan.flows l no_flow (omega arith))

  side_is : (side : Bool) (l : ℕ) → l < links_of x → sides_of x side l ≡ ends_of plan side l
  side_is false l b = let J = link_is l b in let e = J.giver in let f = J.output in λ i. record { component = e i; port = f i }
  side_is true l b = let J = link_is l b in let e = J.taker in let f = J.input in λ i. record { component = e i; port = f i }

pub plan_links : (plan : PlanValue) (recent : ℕ) (p : Play) (w : World) → IsValid plan → IsPlayWorld (play_cast_of plan) recent p w → AreLinks (ends_of plan) (length plan.joints)
plan_links plan recent p w V W = links_by (sides_of (play_cast_of plan).cast) (ends_of plan) (length plan.joints) (side_is plan V) (links_are (play_cast_of plan) recent p w W)

pub plan_over : (plan : PlanValue) (recent : ℕ) (p : Play) (w : World) → IsValid plan → IsPlayWorld (play_cast_of plan) recent p w → IsOver ((play_cast_of plan).cast).layout p → IsPlayedOut plan w
plan_over plan recent p w V W O = record {
  ended = record { many = W.many; joined = parted_by (sides_of (play_cast_of plan).cast) (ends_of plan) (length plan.joints) (side_is plan V) w (joined_all (play_cast_of plan) recent p w W O) };
  components = all_at_end (play_cast_of plan) recent p w W O;
}
