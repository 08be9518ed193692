-- An act has one answer and leads to one world: so two worlds that differ by handles alone go on alike.
use Rattle.std.proofs.Common.{◌≡◌, ◌≢◌, ℕ, ◌-◌, ◌^◌, List, true, Option, Some, None, refl, sym, ◌∙◌, ap, subst}
use Rattle.std.specs.Prelude.{MatchOption, MatchResult, Result, Ok, Err}
use Rattle.omx_types.specs.declared.handle.Handle.{Handle}
use Rattle.omx_types.specs.declared.kind.Kind.{Kind}
use Rattle.omx_types.specs.declared.error.OmxError.{OmxError}
use Rattle.omx_types.specs.declared.error.CallError.{CallError}
use Rattle.omx_types.specs.declared.error.CallError.TheVariants.{OutOfMemory}
use Rattle.il_machine.specs.Acts.{Act, Reply}
use Rattle.il_machine.specs.Acts as acts
use Rattle.il_machine.specs.Answers.{AnswersOrMemory}
use Rattle.il_machine.specs.Components.{GetHandle, get_handle_refusal, is_vacant, with_new_component}
use Rattle.il_machine.specs.Due.{ClosesTo}
use Rattle.il_machine.specs.Kinds.{kind_of}
use Rattle.il_machine.specs.Look.{look}
use Rattle.il_machine.specs.Run.{Step}
use Rattle.il_machine.specs.World.{World}
use Rattle.machine_laws.proofs.Closing.{closes_once}
use Rattle.history_laws.specs.Determined.{AreAlike, Equal, FirstWants, GotBoth, SecondWants, WantsMemory}
use Rattle.history_laws.proofs.DeterminedLaw.{steps_alike}
use Rattle.answer_laws.proofs.Numbered.{not_last}
use Rattle.slot_laws.specs.Seating.{MakesNone, Seating, mapped, moved, moved_act, moved_handle, moved_reply}
use Rattle.slot_laws.proofs.Calling.{full_moved, new_moved}
use Rattle.slot_laws.proofs.Naming.{closes_from}
use Rattle.slot_laws.proofs.Steps.{step_goes}

-- ---- an act that makes no component

not_got : (w : World) (a : Act) (x : Result Handle CallError) (v : World) → MakesNone a → Step w a (acts.Got x) v → ⊥
not_got w (acts.GetHandle name) x v makes s = makes
not_got w _ x v makes s = s

wanting : (r : Reply) → WantsMemory r → (x : Result Handle CallError) × (r ≡ acts.Got x)
wanting (acts.Got (Err OutOfMemory)) wants = (Err OutOfMemory, refl)
wanting _ wants = absurd wants

pub one_answer : (w : World) (a : Act) (r : Reply) (v : World) (s : Reply) (u : World) → MakesNone a → Step w a r v → Step w a s u → (s ≡ r) × (u ≡ v)
one_answer w a r v s u makes p q = go (steps_alike w a r v s u p q)
  where
    go : AreAlike w r v s u → (s ≡ r) × (u ≡ v)
    go (Equal same is) = (same, is)
    go (FirstWants wants stays) = let x = wanting r wants in absurd (not_got w a x.0 v makes (subst (λ (t : Reply). Step w a t v) x.1 p))
    go (SecondWants wants stays) = let x = wanting s wants in absurd (not_got w a x.0 u makes (subst (λ (t : Reply). Step w a t u) x.1 q))
    go (GotBoth G) = absurd (not_got w a (Ok G.first) v makes (subst (λ (t : Reply). Step w a t v) G.one p))

makes_moved : (f : Seating) (a : Act) → MakesNone a → MakesNone (moved_act f a)
makes_moved f (acts.GetHandle name) makes = makes
makes_moved f _ makes = tt

-- what it is answered in the other world is that answer, moved
pub goes_alike : (f : Seating) (w : World) (a : Act) (r : Reply) (v : World) (b : Act) (s : Reply) (u : World) → MakesNone a → b ≡ moved_act f a
    → Step w a r v → Step (moved f w) b s u → (s ≡ moved_reply f r) × (u ≡ moved f v)
goes_alike f w a r v b s u makes is p q =
    one_answer (moved f w) (moved_act f a) (moved_reply f r) (moved f v) s u (makes_moved f a makes) (step_goes f w a r v makes p) (subst (λ (c : Act). Step (moved f w) c s u) is q)

-- ---- a component is made

abbrev pub last_number : ℕ
last_number = 2 ^ 64 - 1

module _ (f : Seating) (w : World) (name : List ℕ) (r : Result Handle CallError) (v : World) (s : Result Handle CallError) (u : World)
    (first : r ≢ Err OutOfMemory) (second : s ≢ Err OutOfMemory)
    (seats : (h k : Handle) → r ≡ Ok h → s ≡ Ok k → h.generation ≡ w.numbered → k.generation ≡ w.numbered → w.numbered ≢ last_number → moved_handle f h ≡ k) where
  abbrev Made : World → World → Handle → Type 0
  Made x y h = (h.generation ≡ x.numbered) × (is_vacant h.slot x.components ≡ true) × MatchOption (kind_of name) ⊥ (λ kind. ClosesTo (with_new_component h kind x) y)

  abbrev Wants : World → World → CallError → Type 0
  Wants x y error = (error ≡ OutOfMemory) × (y ≡ x)

  one_world : (h k : Handle) (o : Option Kind) → moved_handle f h ≡ k → MatchOption o ⊥ (λ kind. ClosesTo (with_new_component h kind w) v)
      → MatchOption o ⊥ (λ kind. ClosesTo (with_new_component k kind (moved f w)) u) → u ≡ moved f v
  one_world h k None same a b = absurd a
  one_world h k (Some kind) same a b =
      closes_once (with_new_component k kind (moved f w)) u (moved f v) b
      (subst (λ (x : Handle). ClosesTo (with_new_component x kind (moved f w)) (moved f v)) same
      (closes_from f (with_new_component (moved_handle f h) kind (moved f w)) (with_new_component h kind w) v (new_moved f h kind w) a))

  both : (x y : Result Handle CallError) → r ≡ x → s ≡ y → w.numbered ≢ last_number → MatchResult x (Made w v) (Wants w v) → MatchResult y (Made (moved f w) u) (Wants (moved f w) u)
      → (s ≡ mapped (moved_handle f) r) × (u ≡ moved f v)
  both (Ok h) (Ok k) e d few a b =
      let same : moved_handle f h ≡ k = seats h k e d a.0 b.0 few in
      (d ∙ (ap (λ (x : Handle). Ok x) (sym same) ∙ sym (ap (mapped (moved_handle f)) e)), one_world h k (kind_of name) same a.2 b.2)
  both (Ok h) (Err error) e d few a b = absurd (second (d ∙ ap (λ (x : CallError). Err x) b.0))
  both (Err error) y e d few a b = absurd (first (e ∙ ap (λ (x : CallError). Err x) a.0))

  refused_or : (o : Option OmxError) → get_handle_refusal (look w) name ≡ o → AnswersOrMemory o r w v (Made w v) → AnswersOrMemory o s (moved f w) u (Made (moved f w) u)
      → (s ≡ mapped (moved_handle f) r) × (u ≡ moved f v)
  refused_or (Some error) is a b = (b.0 ∙ sym (ap (mapped (moved_handle f)) a.0), b.1 ∙ sym (ap (moved f) a.1))
  refused_or None is a b = both r s refl refl (not_last w name is) a b

  pub gets_alike : GetHandle w name r v → GetHandle (moved f w) name s u → (s ≡ mapped (moved_handle f) r) × (u ≡ moved f v)
  gets_alike p q = refused_or (get_handle_refusal (look w) name) refl p
      (subst (λ (o : Option OmxError). AnswersOrMemory o s (moved f w) u (Made (moved f w) u)) (full_moved f w name) q)
