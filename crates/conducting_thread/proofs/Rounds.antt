-- A round of the one who conducts: looks, and then what is due.
use Rattle.std.proofs.Common.{◌≡◌, ℕ, ◌+◌, ◌<◌, List, [], ◌∷◌, ◌++◌, length, take, slice_get, slice_set, Option, Some, None, Ok, Err, inl, inr, refl, sym, ◌∙◌, ap, subst, append_assoc, arith}
use Rattle.std.specs.Prelude.{IfNone, ◌≤◌, option_map}
use Rattle.std.proofs.lemmas.List.{length-map, length-take-le, take-map, take_more_set}
use Rattle.std.proofs.lemmas.Option.{slice_get-map, slice_get_within}
use Rattle.omx_types.specs.declared.error.OmxError.{OmxError}
use Rattle.omx_types.specs.declared.handle.Handle.{Handle}
use Rattle.il_machine.specs.declared.answer.Progress.{Progress}
use Rattle.il_machine.specs.Acts as acts
use Rattle.turnstile.specs.declared.entry.Entry.{Entry}
use Rattle.conductor.specs.declared.phase.Phase.{Phase}
use Rattle.conductor.specs.Hearing.{ConductorValue, heard}
use Rattle.conductor.specs.Phases.{Conducts}
use Rattle.play_forms.specs.Plans.{PlanValue}
use Rattle.play_plan_laws.specs.Assemblies.{PlayFiles}
use Rattle.play_result_laws.specs.Rounds.{AreMade, IsConducting, IsHalted, IsLostLook, looks, round}
use Rattle.graph_acts.specs.declared.act.Act.{Act}
use Rattle.graph_acts.specs.declared.act.Reply.{Reply}
use Rattle.graph_acts.specs.Plain.{Sight}
use Rattle.board.specs.Asking.{ArePlain}
use Rattle.conducting_thread.specs.Asking.{HasAsked, IsAnsweredOtherwise}
use Rattle.work_signs.specs.declared.seat.Seat.{Seat}
use Rattle.conducting_thread.specs.Looking.{HasLost}
use Rattle.work_signs.specs.Seats.{handles_of}
use Rattle.conducting_thread.proofs.Lists.{one_more}
use Rattle.conducting_thread.proofs.Asked.{split}

-- one look more
pub looks_more : (handles : List Handle) (views : List (Option Progress)) (h : Handle) (view : Option Progress) → length handles ≡ length views → looks (handles ++ h ∷ []) (views ++ view ∷ []) ≡ looks handles views ++ (acts.Progress h, acts.Progressed (Ok view)) ∷ []
looks_more [] [] h view e = refl
looks_more [] (v ∷ views) h view e = absurd (omega arith)
looks_more (g ∷ handles) [] h view e = absurd (omega arith)
looks_more (g ∷ handles) (v ∷ views) h view e = ap (λ (xs : List (acts.Act × acts.Reply)). (acts.Progress g, acts.Progressed (Ok v)) ∷ xs) (looks_more handles views h view (omega arith))

-- a loop of looks, as far as it has come
module _ (seats : List Seat) (views : List (Option Progress)) (place : ℕ) (h : Handle) (there : (seat : Seat) × (slice_get seats place ≡ Some seat) × (h ≡ seat.handle)) (room : length views ≡ 32) (few : length seats ≤ 32) where
  within : place < length seats
  within = slice_get_within seats place there.0 there.1

  many_views : length (take place views) ≡ place
  many_views = let b = within in length-take-le place views (omega arith)

  many_handles : length (handles_of (take place seats)) ≡ place
  many_handles = let b = within in length-map (take place seats) (λ (s : Seat). s.handle) ∙ length-take-le place seats (omega arith)

  pub looks_on : (view : Option Progress) → looks (handles_of (take place seats)) (take place views) ++ (acts.Progress h, acts.Progressed (Ok view)) ∷ [] ≡ looks (handles_of (take (place + 1) seats)) (take (place + 1) (slice_set views place view))
  looks_on view =
      let b = within in
      let handles : handles_of (take (place + 1) seats) ≡ handles_of (take place seats) ++ h ∷ [] = one_more (λ (s : Seat). s.handle) seats place there.0 there.1 ∙ ap (λ (k : Handle). handles_of (take place seats) ++ k ∷ []) (sym there.2) in
      let seen : take (place + 1) (slice_set views place view) ≡ take place views ++ view ∷ [] = take_more_set views place view (omega arith) in
      sym ((λ i. looks (handles i) (seen i)) ∙ looks_more (handles_of (take place seats)) (take place views) h view (many_handles ∙ sym many_views))

  pub lost_look : (e : OmxError) → IsLostLook (handles_of seats) (looks (handles_of (take place seats)) (take place views) ++ (acts.Progress h, acts.Progressed (Err e)) ∷ [])
  lost_look e = record {
    views = take place views;
    handle = h;
    error = e;
    there = ap (slice_get (handles_of seats)) many_views ∙ (slice_get-map (λ (s : Seat). s.handle) seats place ∙ (ap (option_map (λ (s : Seat). s.handle)) there.1 ∙ ap (λ (k : Handle). Some k) (sym there.2)));
    is = ap (λ (hs : List Handle). looks hs (take place views) ++ (acts.Progress h, acts.Progressed (Err e)) ∷ []) (sym (take-map (λ (s : Seat). s.handle) place seats) ∙ ap (λ (k : ℕ). take k (handles_of seats)) (sym many_views));
  }

pub for_none : {X : Type 0} {P : Type 0} (o : Option X) → P → IfNone o P
for_none None p = p
for_none (Some x) p = tt

module _ {S K C : Type 0} (see : Sight S K C) (plan : PlanValue) (files : PlayFiles) (handles : List Handle) where
  abbrev Entries : Type 0
  Entries = List (Entry (Act S K C) (Reply S K C))

  abbrev Steps : Type 0
  Steps = List (acts.Act × acts.Reply)

  -- so far as its own calls tell
  abbrev Conducting : Entries → ConductorValue → Type 0
  Conducting own value = (xs : Steps) → ArePlain see own xs → IsConducting plan files handles xs value

  abbrev Halted : Entries → Type 0
  Halted own = (xs : Steps) → ArePlain see own xs → IsHalted plan files handles xs

  module _ (old mid new : Entries) (value : ConductorValue) (views : List (Option Progress)) (so_far : Conducting old value) where
    pub goes_on : (phase : Phase) (next : ConductorValue) (made : Steps) → HasAsked see old (looks handles views) mid → length views ≡ length handles → Conducts (heard value views) phase next → AreMade plan files handles phase made → HasAsked see mid made new
        → Conducting new next
    goes_on phase next made A m c M B xs p =
        let R = split see mid B.made xs (subst (λ (l : Entries). ArePlain see l xs) B.added p) in
        let Q = split see old A.made R.front (subst (λ (l : Entries). ArePlain see l R.front) A.added R.plain) in
        let front : R.front ≡ Q.front ++ looks handles views = Q.is ∙ ap (λ (zs : Steps). Q.front ++ zs) (A.stand Q.back Q.others) in
        let is : xs ≡ (Q.front ++ looks handles views) ++ made = R.is ∙ (λ i. front i ++ B.stand R.back R.others i) in
        subst (λ (zs : Steps). IsConducting plan files handles zs next) (sym is) (round Q.front value views phase next made (so_far Q.front Q.plain) m c M)

    pub is_refused : (phase : Phase) (next : ConductorValue) (made : Steps) → HasAsked see old (looks handles views) mid → length views ≡ length handles → Conducts (heard value views) phase next → AreMade plan files handles phase made
        → IsAnsweredOtherwise see mid made new → Halted new
    is_refused phase next made A m c M B xs p =
        let R = split see mid (B.asked).made xs (subst (λ (l : Entries). ArePlain see l xs) (B.asked).added p) in
        let Q = split see old A.made R.front (subst (λ (l : Entries). ArePlain see l R.front) A.added R.plain) in
        let seen : Steps = looks handles views in
        let front : R.front ≡ Q.front ++ seen = Q.is ∙ ap (λ (zs : Steps). Q.front ++ zs) (A.stand Q.back Q.others) in
        let its : Steps = ((B.expected).0, B.reply) ∷ B.more in
        let is : xs ≡ (Q.front ++ seen) ++ (B.made ++ its) = R.is ∙ (λ i. front i ++ (B.asked).stand R.back R.others i) in
        inl (record {
          before = Q.front;
          value = value;
          views = views;
          phase = phase;
          next = next;
          made = B.made;
          expected = B.expected;
          left = B.left;
          reply = B.reply;
          more = B.more;
          conducting = so_far Q.front Q.plain;
          seen = m;
          conducts = c;
          due = subst (AreMade plan files handles phase) B.are_due M;
          other = B.other;
          is = is ∙ sym (append_assoc (Q.front ++ seen) B.made its);
        })

  -- a look that was refused, behind others
  pub is_lost : (old new : Entries) (value : ConductorValue) → Conducting old value → HasLost see handles old new → Halted new
  is_lost old new value so_far (steps, A, L) xs p =
      let Q = split see old A.made xs (subst (λ (l : Entries). ArePlain see l xs) A.added p) in
      inr (record {
        before = Q.front;
        value = value;
        looked = steps;
        conducting = so_far Q.front Q.plain;
        lost = L;
        is = Q.is ∙ ap (λ (zs : Steps). Q.front ++ zs) (A.stand Q.back Q.others);
      })
