-- One who conducts among others that request nothing: none of its looks is refused. Up to that look the others, and its own looks, are acts
-- of a history.
use Rattle.std.proofs.Common.{◌≡◌, ℕ, zero, suc, ◌==◌, Bool, true, false, List, [], ◌∷◌, ◌++◌, length, map, take, slice_get, Option, Some, Err, refl, sym, ◌∙◌, ap, subst, append-nil, append_assoc}
use Rattle.std.specs.Prelude.{cond, filter}
use Rattle.omx_types.specs.declared.handle.Handle.{Handle}
use Rattle.il_machine.specs.declared.answer.Progress.{Progress}
use Rattle.il_machine.specs.Acts as acts
use Rattle.il_machine.specs.Acts.{Act, Reply}
use Rattle.il_machine.specs.Run.{Meets, Run, Step}
use Rattle.il_machine.specs.World.{World}
use Rattle.machine_laws.proofs.Finding.{either}
use Rattle.conductor.specs.Hearing.{ConductorValue}
use Rattle.play_build_laws.specs.Stages.{IsStage, Joining}
use Rattle.play_forms.specs.Plans.{PlanValue}
use Rattle.play_log.specs.Entries.{Entry, step_of, steps_of}
use Rattle.play_plan_laws.specs.Assemblies.{IsReady, PlayFiles, assembly_of}
use Rattle.play_result_laws.specs.Passes.{own_steps}
use Rattle.play_history_laws.specs.Passes.{RequestAlone}
use Rattle.play_history_laws.specs.Refused.{is_refused}
use Rattle.play_history_laws.specs.Requests.{is_request}
use Rattle.play_history_laws.proofs.PlanUnrefused.{not_refused}
use Rattle.play_history_laws.proofs.Rounds.{conducted_requests}
use Rattle.play_result_laws.specs.Rounds.{IsConducting, IsLost, looks}

abbrev Steps : Type 0
Steps = List (Act × Reply)

module _ {X : Type 0} where
  abbrev Every : (X → Type 0) → List X → Type 0
  Every P [] = Unit {0}
  Every P (x ∷ xs) = P x × Every P xs

  every_from : (P : X → Type 0) (xs : List X) → ((place : ℕ) (x : X) → slice_get xs place ≡ Some x → P x) → Every P xs
  every_from P [] h = tt
  every_from P (x ∷ xs) h = (h 0 x refl, every_from P xs (λ place y e. h (suc place) y e))

  every_append : (P : X → Type 0) (xs ys : List X) → Every P xs → Every P ys → Every P (xs ++ ys)
  every_append P [] ys A B = B
  every_append P (x ∷ xs) ys A B = (A.0, every_append P xs ys A.1 B)

-- ---- the entries of some passes

module _ (own : ℕ → Bool) where
  abbrev is_own : Entry → Bool
  is_own entry = own entry.pass

  own_here : (e : Entry) (es : List Entry) → own e.pass ≡ true → own_steps own (e ∷ es) ≡ step_of e ∷ own_steps own es
  own_here e es t = ap (λ (b : Bool). map (λ (y : Entry). step_of y) (cond b (e ∷ filter is_own es) (filter is_own es))) t

  own_else : (e : Entry) (es : List Entry) → own e.pass ≡ false → own_steps own (e ∷ es) ≡ own_steps own es
  own_else e es f = ap (λ (b : Bool). map (λ (y : Entry). step_of y) (cond b (e ∷ filter is_own es) (filter is_own es))) f

  own_append : (es fs : List Entry) → own_steps own (es ++ fs) ≡ own_steps own es ++ own_steps own fs
  own_append [] fs = refl
  own_append (e ∷ es) fs = either (own e.pass)
      (λ t. own_here e (es ++ fs) t ∙ (ap (λ (xs : Steps). step_of e ∷ xs) (own_append es fs) ∙ ap (λ (xs : Steps). xs ++ own_steps own fs) (sym (own_here e es t))))
      (λ f. own_else e (es ++ fs) f ∙ (own_append es fs ∙ ap (λ (xs : Steps). xs ++ own_steps own fs) (sym (own_else e es f))))

  -- the entries up to an own one
  record IsUpTo (entries : List Entry) (xs : Steps) (y : Act × Reply) : Type 0 where
    before : List Entry
    entry : Entry
    left : List Entry
    is : entries ≡ before ++ entry ∷ left
    mine : own_steps own before ≡ xs
    step : step_of entry ≡ y

  up_to : (entries : List Entry) (xs ys : Steps) (y : Act × Reply) → own_steps own entries ≡ xs ++ y ∷ ys → IsUpTo entries xs y
  up_to [] [] ys y e = absurd cc
  up_to [] (x ∷ xs) ys y e = absurd cc
  up_to (one ∷ entries) [] ys y e = either (own one.pass)
      (λ t. let here = sym (own_here one entries t) ∙ e in
      record { before = []; entry = one; left = entries; is = refl; mine = refl; step = cc })
      (λ f. let R = up_to entries [] ys y (sym (own_else one entries f) ∙ e) in
      record { before = one ∷ R.before; entry = R.entry; left = R.left; is = ap (λ (zs : List Entry). one ∷ zs) R.is; mine = own_else one R.before f ∙ R.mine; step = R.step })
  up_to (one ∷ entries) (x ∷ xs) ys y e = either (own one.pass)
      (λ t. let here : step_of one ∷ own_steps own entries ≡ x ∷ (xs ++ y ∷ ys) = sym (own_here one entries t) ∙ e in
      let first : step_of one ≡ x = cc in
      let rest : own_steps own entries ≡ xs ++ y ∷ ys = cc in
      let R = up_to entries xs ys y rest in
      record { before = one ∷ R.before; entry = R.entry; left = R.left; is = ap (λ (zs : List Entry). one ∷ zs) R.is; mine = own_here one R.before t ∙ (λ i. first i ∷ R.mine i); step = R.step })
      (λ f. let R = up_to entries (x ∷ xs) ys y (sym (own_else one entries f) ∙ e) in
      record { before = one ∷ R.before; entry = R.entry; left = R.left; is = ap (λ (zs : List Entry). one ∷ zs) R.is; mine = own_else one R.before f ∙ R.mine; step = R.step })

  -- the entries with a front of the own ones, and those with the others
  record AreParts (entries : List Entry) (xs ys : Steps) : Type 0 where
    front : List Entry
    back : List Entry
    is : entries ≡ front ++ back
    mine : own_steps own front ≡ xs
    others : own_steps own back ≡ ys

  parts : (entries : List Entry) (xs ys : Steps) → own_steps own entries ≡ xs ++ ys → AreParts entries xs ys
  parts entries [] ys e = record { front = []; back = entries; is = refl; mine = refl; others = e }
  parts [] (x ∷ xs) ys e = absurd cc
  parts (one ∷ entries) (x ∷ xs) ys e = either (own one.pass)
      (λ t. let here : step_of one ∷ own_steps own entries ≡ x ∷ (xs ++ ys) = sym (own_here one entries t) ∙ e in
      let first : step_of one ≡ x = cc in
      let rest : own_steps own entries ≡ xs ++ ys = cc in
      let R = parts entries xs ys rest in
      record { front = one ∷ R.front; back = R.back; is = ap (λ (zs : List Entry). one ∷ zs) R.is; mine = own_here one R.front t ∙ (λ i. first i ∷ R.mine i); others = R.others })
      (λ f. let R = parts entries (x ∷ xs) ys (sym (own_else one entries f) ∙ e) in
      record { front = one ∷ R.front; back = R.back; is = ap (λ (zs : List Entry). one ∷ zs) R.is; mine = own_else one R.front f ∙ R.mine; others = R.others })

  -- ---- the others request nothing

  abbrev Alone : Entry → Type 0
  Alone e = own e.pass ≡ false → is_request (step_of e) ≡ false

  abbrev AsksNothing : Entry → Type 0
  AsksNothing e = is_request (step_of e) ≡ false

  all_nothing : (es : List Entry) → Every Alone es → Every (λ (s : Act × Reply). is_request s ≡ false) (own_steps own es) → Every AsksNothing es
  all_nothing [] A B = tt
  all_nothing (e ∷ es) A B = either (own e.pass)
      (λ t. let C = subst (Every (λ (s : Act × Reply). is_request s ≡ false)) (own_here e es t) B in (C.0, all_nothing es A.1 C.1))
      (λ f. (A.0 f, all_nothing es A.1 (subst (Every (λ (s : Act × Reply). is_request s ≡ false)) (own_else e es f) B)))

-- ---- the same entries, by other passes

abbrev tag : Bool → ℕ
tag true = 1
tag false = 0

abbrev marked : (ℕ → Bool) → Entry → Entry
marked own e = record { pass = tag (own e.pass); act = e.act; reply = e.reply }

abbrev mine : ℕ → Bool
mine p = p == 1

same_steps : (own : ℕ → Bool) (es : List Entry) → steps_of (map (marked own) es) ≡ steps_of es
same_steps own [] = refl
same_steps own (e ∷ es) = ap (λ (xs : Steps). step_of e ∷ xs) (same_steps own es)

marked_own : (own : ℕ → Bool) (es : List Entry) → own_steps mine (map (marked own) es) ≡ own_steps own es
marked_own own [] = refl
marked_own own (e ∷ es) = either (own e.pass)
    (λ t. own_here mine (marked own e) (map (marked own) es) (ap (λ (b : Bool). mine (tag b)) t) ∙ (ap (λ (xs : Steps). step_of e ∷ xs) (marked_own own es) ∙ sym (own_here own e es t)))
    (λ f. own_else mine (marked own e) (map (marked own) es) (ap (λ (b : Bool). mine (tag b)) f) ∙ (marked_own own es ∙ sym (own_else own e es f)))

marked_alone : (own : ℕ → Bool) (es : List Entry) → Every (Alone own) es → Every (Alone mine) (map (marked own) es)
marked_alone own [] A = tt
marked_alone own (e ∷ es) A = (λ f. A.0 (either (own e.pass) (λ t. absurd (let z : true ≡ false = sym (ap (λ (b : Bool). mine (tag b)) t) ∙ f in cc)) (λ g. g)), marked_alone own es A.1)

nothing_alone : (es : List Entry) → Every (AsksNothing (λ p. false)) es → Every (Alone mine) (map (marked (λ p. false)) es)
nothing_alone [] A = tt
nothing_alone (e ∷ es) A = (λ f. A.0, nothing_alone es A.1)

none_own : (es : List Entry) → own_steps (λ p. false) es ≡ []
none_own [] = refl
none_own (e ∷ es) = none_own es

all_there : (P : Entry → Type 0) (es : List Entry) (place : ℕ) (e : Entry) → Every P es → slice_get es place ≡ Some e → P e
all_there P [] place e A f = absurd cc
all_there P (one ∷ es) zero e A f = let is : one ≡ e = cc in subst P is A.0
all_there P (one ∷ es) (suc place) e A f = all_there P es place e A.1 f

steps_append : (es fs : List Entry) → steps_of (es ++ fs) ≡ steps_of es ++ steps_of fs
steps_append [] fs = refl
steps_append (e ∷ es) fs = ap (λ (xs : Steps). step_of e ∷ xs) (steps_append es fs)

run_parts : (w : World) (xs ys : Steps) (v : World) → Run w (xs ++ ys) v → (mid : World) × Run w xs mid × Run mid ys v
run_parts w [] ys v r = (w, refl, r)
run_parts w (x ∷ xs) ys v (next, m, s, r) = let R = run_parts next xs ys v r in (R.0, (next, m, s, R.1), R.2)

front_all : (P : Entry → Type 0) (es fs : List Entry) → Every P (es ++ fs) → Every P es × Every P fs
front_all P [] fs A = (tt, A)
front_all P (e ∷ es) fs A = let R = front_all P es fs A.1 in ((A.0, R.0), R.1)

looks_nothing : (handles : List Handle) (views : List (Option Progress)) → Every (λ (s : Act × Reply). is_request s ≡ false) (looks handles views)
looks_nothing [] views = tt
looks_nothing (h ∷ handles) [] = tt
looks_nothing (h ∷ handles) (v ∷ views) = (refl, looks_nothing handles views)

-- ---- the look

module _ (plan : PlanValue) (files : PlayFiles) (handles : List Handle) (w : World) (ready : IsReady plan files) (stage : IsStage (assembly_of plan files) (Joining (length plan.joints)) handles w)
    (own : ℕ → Bool) (entries : List Entry) (after : World) (alone : RequestAlone own entries) (run : Run w (steps_of entries) after) where
  pub none_lost : IsLost plan files handles (own_steps own entries) → ⊥
  none_lost L =
      let K = L.lost in
      let seen : Steps = looks (take (length K.views) handles) K.views in
      let it : Act × Reply = (acts.Progress K.handle, acts.Progressed (Err K.error)) in
      let is : own_steps own entries ≡ (L.before ++ seen) ++ it ∷ [] = L.is ∙ (ap (λ (xs : Steps). L.before ++ xs) K.is ∙ sym (append_assoc L.before seen (it ∷ []))) in
      let U = up_to own entries (L.before ++ seen) [] it is in
      let P = parts own U.before L.before seen U.mine in
      let all : Every (Alone own) entries = every_from (Alone own) entries alone in
      let early = (front_all (Alone own) U.before (U.entry ∷ U.left) (subst (Every (Alone own)) U.is all)).0 in
      let each = front_all (Alone own) P.front P.back (subst (Every (Alone own)) P.is early) in
      let others : Every (AsksNothing own) P.back = all_nothing own P.back each.1 (subst (Every (λ (s : Act × Reply). is_request s ≡ false)) (sym P.others) (looks_nothing (take (length K.views) handles) K.views)) in
      let Q : List Entry = map (marked own) P.front ++ map (marked (λ p. false)) P.back in
      let its : own_steps mine Q ≡ L.before = own_append mine (map (marked own) P.front) (map (marked (λ p. false)) P.back)
      ∙ ((λ i. marked_own own P.front i ++ (marked_own (λ p. false) P.back ∙ none_own P.back) i) ∙ (append-nil (own_steps own P.front) ∙ P.mine)) in
      let same : steps_of Q ≡ steps_of U.before = steps_append (map (marked own) P.front) (map (marked (λ p. false)) P.back)
      ∙ ((λ i. same_steps own P.front i ++ same_steps (λ p. false) P.back i) ∙ (sym (steps_append P.front P.back) ∙ ap steps_of (sym P.is))) in
      let alone' : RequestAlone mine Q = λ place e f. all_there (Alone mine) Q place e (every_append (Alone mine) (map (marked own) P.front) (map (marked (λ p. false)) P.back) (marked_alone own P.front each.0) (nothing_alone P.back others)) f in
      let R = run_parts w (steps_of U.before) (steps_of (U.entry ∷ U.left)) after (subst (λ (xs : Steps). Run w xs after) (ap steps_of U.is ∙ steps_append U.before (U.entry ∷ U.left)) run) in
      let mid = R.0 in
      let H = conducted_requests plan files handles w ready stage mine Q mid alone' (subst (λ (xs : Steps). Run w xs mid) (sym same) R.1) L.value (subst (λ (xs : Steps). IsConducting plan files handles xs L.value) (sym its) L.conducting) in
      let step = subst (λ (s : Act × Reply). Step mid s.0 s.1 (R.2).0) U.step ((R.2).2) in
      let fine : is_refused (acts.Progressed (Err K.error)) ≡ false = not_refused plan files handles w (steps_of Q) H.0 mid H.1 (acts.Progress K.handle) (acts.Progressed (Err K.error)) (R.2).0 (length K.views, K.there) refl step in
      let z : true ≡ false = fine in
      cc
