-- What can be done in a play may be asked: what the components' clients have heard in its world says so.
use Rattle.std.proofs.Common.{◌≡◌, ◌≢◌, inl, inr, ℕ, zero, suc, ◌+◌, ◌<◌, ◌≤◌, Bool, true, false, List, Option, Some, None, is_some, refl, sym, ◌∙◌, ap, subst, le-leb, arith}
use Rattle.std.proofs.lemmas.Bool.{cases_eq}
use Rattle.omx_types.specs.declared.command.Completion.{Completion}
use Rattle.omx_types.specs.declared.command.Completion.TheVariants as completions
use Rattle.il_machine.specs.declared.answer.Progress.{Progress}
use Rattle.il_machine.specs.Acts.{Act as MachineAct}
use Rattle.il_machine.specs.World.{Stream, World}
use Rattle.play_model.specs.Acts.{Act, CanAct}
use Rattle.play_model.specs.Changes.{IsChanged, port_at}
use Rattle.play_model.specs.Play.{Layout, Play, component_at}
use Rattle.play_model.proofs.Reaching.{ended_from}
use Rattle.play_world_laws.specs.Cast.{components_of, giver_of, links_of}
use Rattle.play_world_laws.specs.Changing.{told_of_port}
use Rattle.play_world_laws.specs.PlayWorlds.{HasHeard, IsPlayWorld, PlayCast, port_number}
use Rattle.play_world_laws.specs.Standing.{target}
use Rattle.play_world_laws.specs.Telling.{heard, last_told}
use Rattle.play_world_laws.proofs.ChangeEnds.{end_inside}
use Rattle.play_history_laws.specs.Following.{Follows, IsTurn}
use Rattle.play_history_laws.specs.Order.{BothHaveTold, Cursor, HasHeardOf, IsAsked, IsChangeAct, IsDone, IsDoneBy, IsSending, IsStateTold, one_more}

module _ (x : PlayCast) (k : Cursor) (r : ℕ) (p : Play) (world : World) (W : IsPlayWorld x r p world) (F : Follows x.cast k r p) (ss : List Stream) where
  -- whatever went through the files
  abbrev u : World
  u = record world { streams = ss }

  abbrev net : Layout
  net = (x.cast).layout

  heard_at : (c : ℕ) → c < components_of x.cast → (P : Progress → Type 0) → ((h : Progress) → HasHeard x.cast r p c h → P h) → HasHeardOf x.cast u c P
  heard_at c b P f a e = f (heard world a) (W.actors c a b e).heard_so

  -- ---- what was asked last is done

  four_told : (n : ℕ) → p.phase ≡ suc n → (c : ℕ) → p.stage c ≡ 4 → (h : Progress) → HasHeard x.cast r p c h → h.state ≡ Some (target (suc n))
  four_told n e c f h H = H.state ∙ (λ i. last_told (e i) (f i))

  pub state_done : ((c : ℕ) → c < components_of x.cast → p.stage c ≡ 4) → (n : ℕ) → k.phase ≡ n → IsStateTold x.cast u n
  state_done all zero e = tt
  state_done all (suc n) e = λ c b. heard_at c b (λ h. h.state ≡ Some (target (suc n))) (four_told n (F.phase ∙ e) c (all c b))

  -- both ends of the link whose change was begun last
  both_told : (l : ℕ) → l < links_of x.cast → (net.is_late l ≡ true) → r ≡ l → (completion : ℕ → Completion) (n : ℕ) → ((port : ℕ) → told_of_port n port ≡ Some (completion port)) → ((o : Bool) → port_at o (p.change l) ≡ n)
      → BothHaveTold x.cast u completion l
  both_told l b t same completion n f g o =
      heard_at (component_at net o l) (end_inside x r p world W o l b) (λ h. h.port ≡ Some (completion (port_number x.cast o l))) (λ h H.
      let e : told_of_port (port_at o (p.change r)) (port_number x.cast o r) ≡ Some (completion (port_number x.cast o r)) = ap (λ (m : ℕ). told_of_port m (port_number x.cast o r)) (ap (λ (i : ℕ). port_at o (p.change i)) same ∙ g o) ∙ f (port_number x.cast o r) in
      let told = H.port o (subst (λ (i : ℕ). i < links_of x.cast) (sym same) b) (ap (component_at net o) same) (ap (λ (i : ℕ). net.is_late i) same ∙ t) (ap (λ (y : Option Completion). is_some y) e) in
      subst (λ (i : ℕ). h.port ≡ Some (completion (port_number x.cast o i))) same (told ∙ e))

  changed_made : (l : ℕ) → l < links_of x.cast → net.is_late l ≡ true → IsChanged (p.change l) → k.made l ≡ 8
  changed_made l b t C = elim (cases_eq (k.made l) 0) [
    | inl z ↦ let few = F.few l b t z in let ten = C.0 in absurd (omega (arith, few, ten))
    | inr n ↦ let s = F.some l b t (omega (arith, n)) in let ten = C.0 in omega (arith, s, ten)
  ]

  module _ (all : (c : ℕ) → c < components_of x.cast → p.stage c ≡ 4) (changed : (l : ℕ) → l < links_of x.cast → net.is_late l ≡ true → 1 ≤ k.made l → IsChanged (p.change l)) (sent : components_of x.cast ≤ k.sent) where
    done_by : (o : Option ℕ) → IsTurn x.cast k r p o → IsDoneBy x.cast k u o
    done_by None T = state_done all k.phase refl
    done_by (Some l) T =
        let C = changed l T.2 T.3 T.4 in
        (changed_made l T.2 T.3 C, both_told l T.2 T.3 T.1 (λ port. completions.Enable port) 8 (λ port. refl) (by C))
      where
        by : IsChanged (p.change l) → (o : Bool) → port_at o (p.change l) ≡ 8
        by C true = C.1
        by C false = C.2

    done : IsDone x.cast k u
    done = record { all_sent = sent; told = done_by k.changing F.turn }

  -- ---- a StateSet

  module _ (C : CanAct net p Act.Begin) (sent : components_of x.cast ≤ k.sent) where
    -- where each sink has ended each late source has given all, so that its link is changed
    all_changed : p.phase ≡ 2 → (l : ℕ) → l < links_of x.cast → net.is_late l ≡ true → IsChanged (p.change l)
    all_changed two l b t = elim (C.changes two l b t) [
      | inr D ↦ D
      | inl m ↦
          let K = (W.reached).changes l b in
          let z = (K.order).output_unsent (omega (arith, m)) in
          let q = (K.quiet t (omega (arith, z))).1 in
          let e = ended_from net p W.reached two (C.ends two) (components_of x.cast) (giver_of x.cast l) (omega arith) (end_inside x r p world W true l b) in
          absurd cc
    ]

    -- a change was begun in no other phase
    begun_two : (l : ℕ) → l < links_of x.cast → net.is_late l ≡ true → 1 ≤ k.made l → IsChanged (p.change l)
    begun_two l b t one = elim (cases_eq p.phase 2) [
      | inl two ↦ all_changed two l b t
      | inr n ↦ other k.changing F.turn n
    ]
      where
        other : (o : Option ℕ) → IsTurn x.cast k r p o → p.phase ≢ 2 → IsChanged (p.change l)
        other None T n = elim (T l b t) [ inl z ↦ absurd (omega (arith, z, one)) | inr D ↦ D ]
        other (Some j) T n = absurd (n T.0)

    pub begins_asked : (act : MachineAct) → IsSending x.cast u (k.phase + 1) 0 act → IsAsked x k u act (record { phase = k.phase + 1; sent = 1; made = k.made; changing = None })
    begins_asked act S = inr (inl (record {
      more = (let m = C.more in let e = F.phase in omega (arith, m, e));
      done = done C.all begun_two sent;
      changed = λ two l b t. changed_made l b t (all_changed (F.phase ∙ two) l b t);
      ends = λ two c b. heard_at c b (λ h. net.is_sink c ≡ true → h.eos ≡ true) (λ h H s. H.eos ∙ C.ends (F.phase ∙ two) c b s);
      sends = S;
      after = refl;
    }))

  -- ---- an act of a change

  -- its change was begun and isn't done: it is the one that was begun last
  turn_is : (l : ℕ) → l < links_of x.cast → net.is_late l ≡ true → 1 ≤ k.made l → (IsChanged (p.change l) → ⊥) → (k.changing ≡ Some l) × (r ≡ l)
  turn_is l b t one N = by k.changing refl F.turn
    where
      by : (o : Option ℕ) → k.changing ≡ o → IsTurn x.cast k r p o → (k.changing ≡ Some l) × (r ≡ l)
      by None e T = elim (T l b t) [ inl z ↦ absurd (omega (arith, z, one)) | inr D ↦ absurd (N D) ]
      by (Some j) e T = elim (cases_eq l j) [
        | inl s ↦ (e ∙ ap Some (sym s), T.1 ∙ sym s)
        | inr n ↦ elim (T.6 l b t n) [ inl z ↦ absurd (omega (arith, z, one)) | inr D ↦ absurd (N D) ]
      ]

  pub change_asked : (l : ℕ) → CanAct net p (Act.Conduct l) → components_of x.cast ≤ k.sent → (act : MachineAct) → IsChangeAct x u l (k.made l) act → IsAsked x k u act (one_more l k)
  change_asked l C sent act A = elim (cases_eq (k.made l) 0) [
    | inl z ↦
        let few = F.few l C.below C.late z in
        let told = C.told in
        let N = C.next (omega (arith, few, told)) in
        inr (inr (inl (record {
          phase = sym F.phase ∙ N.phase;
          done = done N.all (λ j b t one. elim (N.unbroken j b t) [ inl m ↦ (let s = F.some j b t one in absurd (omega (arith, s, m, one))) | inr D ↦ D ]) sent;
          link = l;
          below = C.below;
          late = C.late;
          unchanged = z;
          announced = heard_at (giver_of x.cast l) (end_inside x r p world W true l C.below) (λ h. is_some h.settings ≡ true) (λ h H. H.settings l (record { below = C.below; given_by = refl }) C.late ∙ le-leb 2 (p.change l).step C.told);
          its_act = subst (λ (n : ℕ). IsChangeAct x u l n act) z A;
          after = refl;
        })))
    | inr n ↦
        let one : 1 ≤ k.made l = omega (arith, n) in
        let s = F.some l C.below C.late one in
        let m = C.more in
        let T = turn_is l C.below C.late one (λ D. let ten = D.0 in omega (arith, ten, m)) in
        inr (inr (inr (record {
          link = l;
          its = T.0;
          more = omega (arith, s, m);
          disabled = λ two.
              let B = C.disabled (omega (arith, s, two)) in
              both_told l C.below C.late T.1 (λ port. completions.Disable port) 4 (λ port. refl) (sides B);
          its_act = A;
          after = refl;
        })))
  ]
    where
      sides : ((p.change l).output ≡ 4) × ((p.change l).input ≡ 4) → (o : Bool) → port_at o (p.change l) ≡ 4
      sides B true = B.0
      sides B false = B.1
