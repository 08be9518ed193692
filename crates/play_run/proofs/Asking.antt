-- What the conductor has answered is asked, act by act; and it answers more.
use Rattle.std.proofs.Common.{◌≡◌, ℕ, zero, suc, ◌+◌, ◌<◌, ◌≤◌, true, nat_lt, if◌then◌else◌, List, [], ◌∷◌, ◌++◌, drop, length, map, Option, refl, sym, ◌∙◌, ap, subst, append_assoc, arith}
use Rattle.std.proofs.lemmas.List.{length-map}
use Rattle.omx_types.specs.declared.handle.Handle.{Handle}
use Rattle.il_machine.specs.declared.answer.Progress.{Progress}
use Rattle.il_machine.specs.Acts.{Act, Reply}
use Rattle.il_machine.specs.World.{World}
use Rattle.conductor.specs.declared.phase.LateLink.{LateLink}
use Rattle.conductor.specs.Hearing.{ConductorValue, heard as heard_by, heard_late, heard_lates, heard_views}
use Rattle.play_build_laws.specs.Assembly.{Assembly}
use Rattle.play_build_laws.proofs.Places.{from_mapped}
use Rattle.play_forms.specs.Plans.{PlanValue}
use Rattle.play_world_laws.specs.Cast.{Cast}
use Rattle.play_world_laws.specs.Standing.{target}
use Rattle.play_turn_laws.specs.Conducting.{IsLateOf}
use Rattle.play_plan_laws.specs.Assemblies.{PlayFiles, play_cast_of}
use Rattle.play_result_laws.specs.Asked.{Asking, BackToIdle, HasCause, IsDone, ToExecuting, ToIdle, ToLoaded, acts_of, change_of, is_asked, sending, tuned}
use Rattle.play_run.specs.Asking.{AreChanges, Asks, IsAsking, answered, handles_of}
use Rattle.play_run.proofs.Timely.{asking_begins, asking_goes}

module _ (plan : PlanValue) (files : PlayFiles) (opening : World) (recent : ℕ) (value : ConductorValue) where
  -- the next act of what is left
  pub asked_on : (x : Act × Reply) (left xs : List (Act × Reply)) → is_asked x ≡ true → Asks plan files opening recent value (x ∷ left) xs → Asks plan files opening recent value left (xs ++ x ∷ [])
  asked_on x left xs t A = record {
    changes = A.changes;
    are = A.are;
    early = A.early;
    asking = asking_goes (tuned plan files) (handles_of opening) (answered value.sends A.changes) x left xs t A.asking;
  }

-- ---- it hears

same_late : (x : Cast) (l : ℕ) (told : List Progress) (late : LateLink) → IsLateOf x l (heard_late told late) → IsLateOf x l late
same_late x l told late O = record { below = O.below; late = O.late; source = O.source; taker = O.taker; input = O.input; first = O.first }

heard_changes : (x : Cast) (recent : ℕ) (told : List Progress) (lates : List LateLink) (changes : List Asking) → AreChanges x recent lates changes → AreChanges x recent (heard_lates told lates) changes
heard_changes x recent told lates changes C = record {
  links = C.links;
  rest = C.rest;
  begun = λ i l late e O.
      (let m = from_mapped (heard_late told) lates i late e in
      C.begun i l m.0 m.1 (same_late x l told m.0 (subst (IsLateOf x l) (sym m.2) O)) ∙ ap (λ (y : LateLink). if nat_lt 0 y.steps then 1 else 0) m.2);
  only = C.only;
  parts = C.parts;
  last = λ front l i late f e O.
      (let m = from_mapped (heard_late told) lates i late e in
      let t = C.last front l i m.0 f m.1 (same_late x l told m.0 (subst (IsLateOf x l) (sym m.2) O)) in
      (t.0, t.1 ∙ ap (λ (y : LateLink). drop y.steps (change_of l)) m.2));
}

pub heard_asks : (plan : PlanValue) (files : PlayFiles) (opening : World) (recent : ℕ) (value : ConductorValue) (views : List (Option Progress)) (left xs : List (Act × Reply))
    → Asks plan files opening recent value left xs → Asks plan files opening recent (heard_by value views) left xs
heard_asks plan files opening recent value views left xs A = record {
  changes = A.changes;
  are = heard_changes (play_cast_of plan).cast recent (heard_views value.told views) value.lates A.changes A.are;
  early = A.early;
  asking = A.asking;
}

-- ---- a state is begun

abbrev pub next_of : ℕ → Asking
next_of zero = ToIdle
next_of (suc zero) = ToExecuting
next_of (suc (suc zero)) = BackToIdle
next_of _ = ToLoaded

answered_more : (sends : ℕ) (changes : List Asking) → sends < 4 → (sends ≤ 1 → changes ≡ []) → answered (suc sends) changes ≡ answered sends changes ++ next_of sends ∷ []
answered_more zero changes b E = refl
answered_more (suc zero) changes b E = ap (λ (t : List Asking). ToIdle ∷ ToExecuting ∷ t) (E (omega arith))
answered_more (suc (suc zero)) changes b E = refl
answered_more (suc (suc (suc zero))) changes b E = ap (λ (t : List Asking). ToIdle ∷ ToExecuting ∷ t) (sym (append_assoc changes (BackToIdle ∷ []) (ToLoaded ∷ [])))
answered_more (suc (suc (suc (suc n)))) changes b E = absurd (omega arith)

next_acts : (s : Assembly) (handles : List Handle) (sends : ℕ) → sends < 4 → acts_of s handles (next_of sends) ≡ map (sending (target (suc sends))) handles
next_acts s handles zero b = refl
next_acts s handles (suc zero) b = refl
next_acts s handles (suc (suc zero)) b = refl
next_acts s handles (suc (suc (suc zero))) b = refl
next_acts s handles (suc (suc (suc (suc n)))) b = absurd (omega arith)

module _ (plan : PlanValue) (files : PlayFiles) (opening : World) (recent : ℕ) (value : ConductorValue) (xs : List (Act × Reply)) (A : Asks plan files opening recent value [] xs) where
  abbrev s : Assembly
  s = tuned plan files

  abbrev hs : List Handle
  hs = handles_of opening

  pub state_begins : value.sends < 4 → ((one : Asking) (front : List Asking) → answered value.sends A.changes ≡ front ++ one ∷ [] → IsDone s one xs × HasCause s (next_of value.sends) xs)
      → Asks plan files opening recent (record value { sends = value.sends + 1 }) (map (sending (target (suc value.sends))) hs) xs
  state_begins b D =
      let same = next_acts s hs value.sends b in
      let some : 1 ≤ length (acts_of s hs (next_of value.sends)) → 1 ≤ length hs = λ m. (let n = ap length same in let k = length-map hs (sending (target (suc value.sends))) in omega (arith, m, n, k)) in
      let G = asking_begins s hs (answered value.sends A.changes) (next_of value.sends) xs some D A.asking in
      let e : suc value.sends ≡ value.sends + 1 = omega arith in
      let list = sym (answered_more value.sends A.changes b A.early) ∙ ap (λ (n : ℕ). answered n A.changes) e in
      record {
        changes = A.changes;
        are = A.are;
        early = λ m. A.early (omega (arith, m));
        asking = subst (λ (l : List Asking). IsAsking s hs l (map (sending (target (suc value.sends))) hs) xs) list
            (subst (λ (left : List (Act × Reply)). IsAsking s hs (answered value.sends A.changes ++ next_of value.sends ∷ []) left xs) same G);
      }
