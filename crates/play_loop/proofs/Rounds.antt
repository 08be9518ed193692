-- How a round stands after each turn, and that one in which nothing was accepted can't be.
use Rattle.std.proofs.Common.{◌≡◌, ◌⊎◌, inl, inr, ℕ, ◌+◌, ◌<◌, Bool, true, false, ◌||◌, refl, sym, ◌∙◌, ap, subst, arith}
use Rattle.play_model.proofs.Queues.{either, both}
use Rattle.play_model.specs.Play.{Layout, IsLayout, Play, component_at}
use Rattle.play_model.specs.Acts.{Act, CanAct, all_acted}
use Rattle.play_model.specs.Reached.{IsReached, IsOver, acts_left}
use Rattle.play_model.proofs.Enabled.{enabled}
use Rattle.play_model.proofs.LinkEnds.{end_inside}
use Rattle.play_model.proofs.Handing.{acts_reach}
use Rattle.play_model.proofs.Less.{acts_count}
use Rattle.play_loop.specs.Turns.{IsOfComponent, IsOfLink, IsSend, IsAtRest, HasActed, HasRun, Turned, IsGoing, IsTried, IsRound, IsOnWay}
use Rattle.play_loop.proofs.Running.{acted_run, no_run, run_more}

acted_goes : (w : Layout) (p q : Play) → IsGoing w p → HasActed w p q → IsAtRest w q → IsGoing w q
acted_goes w p q G A rest = record { reached = subst (IsReached w) (sym A.after) (acts_reach w p A.acts G.reached A.enabled); rest = rest }

acted_less : (w : Layout) (p q : Play) → IsGoing w p → HasActed w p q → acts_left w q < acts_left w p
acted_less w p q G A =
    let e : acts_left w q ≡ acts_left w (all_acted w A.acts p) = ap (acts_left w) A.after in
    let c = acts_count w p A.acts G.reached A.enabled in
    let s = A.some in
    omega arith

turned : (w : Layout) (start now next : Play) (did r : Bool) (P : Act → Type 0) (c l d m : ℕ) → IsRound w start now did c l → Turned w now next r P →
    ((a : Act) → IsTried w d m a → IsTried w c l a ⊎ P a) → IsRound w start next (did || r) d m
turned w start now next did true P c l d m R T more =
    let less : acts_left w next < acts_left w now = acted_less w now next R.going T.0 in
    let fell : acts_left w next < acts_left w start = either did
    (λ t. let f = R.fell t in omega arith)
    (λ f. let e : acts_left w now ≡ acts_left w start = ap (acts_left w) (R.still f) in omega arith) in
    let acted : (did || true) ≡ true = either did (λ t. rw t refl) (λ f. rw f refl) in
    record {
      going = acted_goes w now next R.going T.0 T.1;
      ran = run_more w start now next R.ran (acted_run w now next T.0);
      fell = λ _. fell;
      still = λ f. both (did || true) acted f;
      none = λ f. both (did || true) acted f;
    }
turned w start now next did false P c l d m R T more =
    let same : (did || false) ≡ did = either did (λ t. rw t refl) (λ f. rw f refl) in
    record {
      going = subst (IsGoing w) (sym T.0) R.going;
      ran = subst (HasRun w start) (sym T.0) R.ran;
      fell = λ t. let e : acts_left w next ≡ acts_left w now = ap (acts_left w) T.0 in let f = R.fell (sym same ∙ t) in omega arith;
      still = λ f. T.0 ∙ R.still (sym same ∙ f);
      none = λ f a tried C. elim (more a tried) [
        | inl before ↦ R.none (sym same ∙ f) a before C
        | inr here ↦ T.1 a here (subst (λ (p : Play). CanAct w p a) (sym (R.still (sym same ∙ f))) C)
      ];
    }

pub round_begins : (w : Layout) (p : Play) → IsGoing w p → (q : Play) (r : Bool) → Turned w p q r IsSend → IsRound w p q r 0 0
round_begins w p G q true T = record {
  going = acted_goes w p q G T.0 T.1;
  ran = acted_run w p q T.0;
  fell = λ _. acted_less w p q G T.0;
  still = λ f. both true refl f;
  none = λ f. both true refl f;
}
round_begins w p G q false T = record {
  going = subst (IsGoing w) (sym T.0) G;
  ran = subst (HasRun w p) (sym T.0) (no_run w p);
  fell = λ t. both false t refl;
  still = λ _. T.0;
  none = λ _ a tried C. T.1 a (only a tried) C;
}
  where
    only : (a : Act) → IsTried w 0 0 a → IsSend a
    only Act.Begin t = tt
    only (Act.Send k) t = tt
    only (Act.Run k) t = absurd (omega (arith, t))
    only (Act.Happen k) t = t
    only (Act.Tell k) t = absurd (omega (arith, t))
    only (Act.TellEnd k) t = absurd (omega (arith, t))
    only (Act.Supply k) t = absurd (omega (arith, t))
    only (Act.Release k) t = absurd (omega (arith, t))
    only (Act.HandOver k) t = absurd (omega (arith, t))
    only (Act.HandBack k) t = absurd (omega (arith, t))
    only (Act.HandUnused k) t = absurd (omega (arith, t))
    only (Act.Step k n last) t = absurd (omega (arith, t))
    only (Act.Announce k) t = absurd (omega (arith, t))
    only (Act.TellSettings k) t = absurd (omega (arith, t))
    only (Act.Conduct k) t = tt
    only (Act.RunPort k output) t = absurd (omega (arith, t))
    only (Act.HappenPort k output) t = t
    only (Act.TellPort k output) t = absurd (omega (arith, t))

below_or : (k c : ℕ) → k < c + 1 → (k < c) ⊎ (k ≡ c)
below_or k c b = grind arith

more_component : (w : Layout) (c : ℕ) (a : Act) → IsTried w (c + 1) 0 a → IsTried w c 0 a ⊎ IsOfComponent w c a
more_component w c Act.Begin t = inl t
more_component w c (Act.Send k) t = inl t
more_component w c (Act.Run k) t = below_or k c t
more_component w c (Act.Happen k) t = inl t
more_component w c (Act.Tell k) t = below_or k c t
more_component w c (Act.TellEnd k) t = below_or k c t
more_component w c (Act.Supply k) t = inl t
more_component w c (Act.Release k) t = inl t
more_component w c (Act.HandOver k) t = inl t
more_component w c (Act.HandBack k) t = inl t
more_component w c (Act.HandUnused k) t = inl t
more_component w c (Act.Step k n last) t = below_or k c t
more_component w c (Act.Announce k) t = below_or ((w.network).giver k) c t
more_component w c (Act.TellSettings k) t = below_or ((w.network).giver k) c t
more_component w c (Act.Conduct k) t = inl t
more_component w c (Act.RunPort k output) t = below_or (component_at w output k) c t
more_component w c (Act.HappenPort k output) t = inl t
more_component w c (Act.TellPort k output) t = below_or (component_at w output k) c t

more_link : (w : Layout) (c l : ℕ) (a : Act) → IsTried w c (l + 1) a → IsTried w c l a ⊎ IsOfLink l a
more_link w c l Act.Begin t = inl t
more_link w c l (Act.Send k) t = inl t
more_link w c l (Act.Run k) t = inl t
more_link w c l (Act.Happen k) t = inl t
more_link w c l (Act.Tell k) t = inl t
more_link w c l (Act.TellEnd k) t = inl t
more_link w c l (Act.Supply k) t = below_or k l t
more_link w c l (Act.Release k) t = below_or k l t
more_link w c l (Act.HandOver k) t = below_or k l t
more_link w c l (Act.HandBack k) t = below_or k l t
more_link w c l (Act.HandUnused k) t = below_or k l t
more_link w c l (Act.Step k n last) t = inl t
more_link w c l (Act.Announce k) t = inl t
more_link w c l (Act.TellSettings k) t = inl t
more_link w c l (Act.Conduct k) t = inl t
more_link w c l (Act.RunPort k output) t = inl t
more_link w c l (Act.HappenPort k output) t = inl t
more_link w c l (Act.TellPort k output) t = inl t

pub round_component : (w : Layout) (start now next : Play) (did r : Bool) (c : ℕ) → IsRound w start now did c 0 → Turned w now next r (IsOfComponent w c) → IsRound w start next (did || r) (c + 1) 0
round_component w start now next did r c R T = turned w start now next did r (IsOfComponent w c) c 0 (c + 1) 0 R T (more_component w c)

pub round_link : (w : Layout) (start now next : Play) (did r : Bool) (c l : ℕ) → IsRound w start now did c l → Turned w now next r (IsOfLink l) → IsRound w start next (did || r) c (l + 1)
round_link w start now next did r c l R T = turned w start now next did r (IsOfLink l) c l c (l + 1) R T (more_link w c l)

end_below : (w : Layout) → IsLayout w → (output : Bool) (l : ℕ) → l < (w.network).links → component_at w output l < (w.network).components
end_below w W true l b = end_inside w W ((w.network).giver l) l (inr (record { below = b; given_by = refl }))
end_below w W false l b = end_inside w W ((w.network).taker l) l (inl (record { below = b; taken_by = refl }))

-- every act that can be made is one that a whole round tries
all_tried : (w : Layout) (p : Play) (a : Act) → IsLayout w → IsAtRest w p → CanAct w p a → IsTried w (w.network).components (w.network).links a
all_tried w p Act.Begin W rest C = tt
all_tried w p (Act.Send k) W rest C = tt
all_tried w p (Act.Run k) W rest C = C.0
all_tried w p (Act.Happen k) W rest C = rest.components k C
all_tried w p (Act.Tell k) W rest C = C.0
all_tried w p (Act.TellEnd k) W rest C = C.0
all_tried w p (Act.Supply k) W rest C = C.0
all_tried w p (Act.Release k) W rest C = C.0
all_tried w p (Act.HandOver k) W rest C = C.0
all_tried w p (Act.HandBack k) W rest C = C.0
all_tried w p (Act.HandUnused k) W rest C = C.0
all_tried w p (Act.Step k n last) W rest C = (C.1.0).inside
all_tried w p (Act.Announce k) W rest C = end_below w W true k C.0
all_tried w p (Act.TellSettings k) W rest C = end_below w W true k C.0
all_tried w p (Act.Conduct k) W rest C = tt
all_tried w p (Act.RunPort k output) W rest C = end_below w W output k C.0
all_tried w p (Act.HappenPort k output) W rest C = rest.ports k output C
all_tried w p (Act.TellPort k output) W rest C = end_below w W output k C.0

-- A round accepts something, as long as the phase isn't Over.
pub round_acts : (w : Layout) (start now : Play) (did : Bool) → IsGoing w start → IsRound w start now did (w.network).components (w.network).links → (IsOver w start → ⊥) → did ≡ true
round_acts w start now did G R going = either did (λ t. t) (λ f. absurd (elim (enabled w start G.reached) [
  | inl v ↦ R.none f v.0 (all_tried w start v.0 (G.reached).layout G.rest v.1) v.1
  | inr over ↦ going over
]))

-- ---- from round to round

pub way_begins : (w : Layout) (p : Play) → IsGoing w p → IsOnWay w p p 0
way_begins w p G = record { going = G; ran = no_run w p; less = omega arith }

pub way_more : (w : Layout) (start now next : Play) (rounds c l : ℕ) → IsOnWay w start now rounds → IsRound w now next true c l → IsOnWay w start next (rounds + 1)
way_more w start now next rounds c l W R =
    let less = W.less in
    let fell = R.fell refl in
    record { going = R.going; ran = run_more w start now next W.ran R.ran; less = omega arith }
