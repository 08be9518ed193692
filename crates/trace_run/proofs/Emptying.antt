-- Notes are taken until none is left.
use Rattle.std.proofs.Common.{◌≡◌, ℕ, ◌<◌, Bool, true, false, List, [], ◌∷◌, drop, length, set, slice_get, Option, Some, None, option_map, All, MatchOption, Result, Ok, Err, refl, sym, ◌∙◌, ap, subst, arith}
use Rattle.std.specs.Prelude.{unwrap_or, option_and_then, IsSomeAnd}
use Rattle.omx_types.specs.declared.handle.Handle.{Handle}
use Rattle.omx_types.specs.declared.command.Note.{Note}
use Rattle.omx_types.specs.declared.command.Note.TheVariants.{Told, EmptyDone, FillDone}
use Rattle.omx_types.specs.declared.error.OmxError.{OmxError}
use Rattle.omx_types.specs.declared.error.OmxError.TheVariants as errors
use Rattle.il_machine.specs.declared.answer.Progress.{Progress}
use Rattle.il_machine.specs.World.{Component, World, place_of, is_at, with_component}
use Rattle.il_machine.specs.Headers.{seen, find_header}
use Rattle.il_machine.specs.Look.{Look, look}
use Rattle.il_machine.specs.Answers.{component_named}
use Rattle.il_machine.specs.Notes.{Taken, TakenEvent, TakenEmpty, TakenFilled, Took, TookNote, TookNone, TookBusy, TakeNote, TakeFrom, EndNote, first_taken, back_in}
use Rattle.il_machine.specs.Due.{IsClosed}
use Rattle.il_machine.specs.Acts as acts
use Rattle.il_machine.specs.Run.{Run}
use Rattle.il_machine.specs.Sound.{Sound}
use Rattle.il_machine.specs.Whole.{Kept}
use Rattle.il_machine.proofs.Places.{is_first_place, place_set}
use Rattle.machine_laws.proofs.Closing.{closed_closes}
use Rattle.machine_laws.proofs.Every.{at_place, set_there}
use Rattle.machine_laws.proofs.Keys.{there_is}
use Rattle.machine_laws.proofs.Steps.{sound_step}
use Rattle.history_laws.proofs.StillClosed.{alike_itself, still_none}
use Rattle.act_text.specs.declared.reply.TextReply.{TextReply}
use Rattle.act_text.specs.declared.reply.TextReply.TheVariants as texts
use Rattle.trace_run.specs.declared.names.NamedComponent.{NamedComponent}
use Rattle.trace_run.specs.declared.reply.LineAnswer.{LineAnswer}
use Rattle.trace_run.specs.declared.reply.LineAnswer.TheVariants as answers
use Rattle.trace_run.specs.declared.slots.Slot.{Slot}
use Rattle.trace_run.specs.Naming.{Names, header_name}
use Rattle.trace_run.specs.Replying.{LineReply, Plain, Emptied, Filled, printed}
use Rattle.trace_run.specs.Lines.{taking}
use Rattle.trace_run.specs.Standing.{IsSeated, HasNamesFor, Means, TakeLeads}
use Rattle.trace_run.specs.Closing.{KeepMoments, StayEnded, is_event, is_note, notes_left}
use Rattle.trace_run.proofs.Standing.{world_rests}
use Rattle.trace_run.proofs.Taken.{WasTaken, was_taken, named_before, named_then}
use Rattle.trace_run.proofs.Ends.{seated_there}
use Rattle.trace_run.proofs.Lasting.{AreEnding, HaveNone, ending_of, ended_of, ending_step, none_step, none_there, none_here}

-- ---- the answer tells whether there was a note

abbrev tells_note : LineReply → Bool
tells_note (Plain said) = is_event said
tells_note (Emptied header) = true
tells_note (Filled header bytes eos) = true

abbrev had_note : Result Took OmxError → Bool
had_note (Ok (TookNote taken)) = true
had_note (Ok TookNone) = false
had_note (Ok TookBusy) = false
had_note (Err error) = false

some_then : {A R : Type 0} (o : Option A) (P : A → Type 0) → IsSomeAnd o P → ((x : A) → P x → R) → R
some_then None P h f = absurd h
some_then (Some x) P h f = f x h

meant : (slots : List Slot) (answer : LineAnswer) (reply : LineReply) → Means slots answer reply → is_note answer ≡ tells_note reply
meant slots (answers.Plain said) reply m = sym (ap (λ (r : LineReply). tells_note r) m)
meant slots (answers.Emptied place) reply m = some_then (slice_get slots place) _ m (λ s h. sym (ap (λ (r : LineReply). tells_note r) h))
meant slots (answers.Filled place) reply m = some_then (slice_get slots place) _ m (λ s h. some_then s.hand _ h (λ header k. sym (ap (λ (r : LineReply). tells_note r) k)))

mapped_note : (o : Option (List ℕ)) (f : List ℕ → LineReply) (reply : LineReply) → ((name : List ℕ) → tells_note (f name) ≡ true) → option_map f o ≡ Some reply → true ≡ tells_note reply
mapped_note None f reply t e = absurd cc
mapped_note (Some name) f reply t e = let is : f name ≡ reply = cc in sym (t name) ∙ ap (λ (r : LineReply). tells_note r) is

said_so : (said : TextReply) (reply : LineReply) → Some (Plain said) ≡ Some reply → is_event said ≡ tells_note reply
said_so said reply e = let is : Plain said ≡ reply = cc in ap (λ (r : LineReply). tells_note r) is

printed_note : (names : Names) (result : Result Took OmxError) (reply : LineReply) → printed names (acts.Took result) ≡ Some reply → had_note result ≡ tells_note reply
printed_note names (Ok (TookNote (TakenEvent event))) reply e = said_so (texts.Event event) reply e
printed_note names (Ok (TookNote (TakenEmpty header))) reply e = mapped_note (header_name names header.number) _ reply (λ name. refl) e
printed_note names (Ok (TookNote (TakenFilled header))) reply e = mapped_note (header_name names header.number) _ reply (λ name. refl) e
printed_note names (Ok TookNone) reply e = said_so texts.NoNote reply e
printed_note names (Ok TookBusy) reply e = said_so texts.Busy reply e
printed_note names (Err error) reply e = said_so (texts.Error error) reply e

-- ---- a note was there

left_of : (h : Handle) (cs : List Component) (o : Option Component) → component_named h cs ≡ o → unwrap_or (option_map (λ (c : Component). length c.notes) (component_named h cs)) 0 ≡ unwrap_or (option_map (λ (c : Component). length c.notes) o) 0
left_of h cs o e = ap (λ (x : Option Component). unwrap_or (option_map (λ (c : Component). length c.notes) x) 0) e

one_less : (ns : List Note) (note : Note) → slice_get ns 0 ≡ Some note → length (drop 1 ns) < length ns
one_less [] note e = absurd cc
one_less (n ∷ ns) note e = omega arith

module _ (w : World) (h : Handle) (taken : Taken) (v u : World) (S : Sound w) (closed : IsClosed w) (T : WasTaken w h taken v) (E : EndNote v h u) where
  -- nothing happened besides
  taken_only : v ≡ T.after
  taken_only = closed_closes T.after v (T.rests closed S) T.closes

  named_now : component_named h v.components ≡ Some (first_taken T.component)
  named_now = subst (λ (x : World). component_named h x.components ≡ Some (first_taken T.component)) (sym taken_only) (named_then w h taken v T)

  rests_now : IsClosed v
  rests_now = subst IsClosed (sym taken_only) (T.rests closed S)

  ended_so : (i : ℕ) (c : Component) → place_of h v.components ≡ Some i → slice_get v.components i ≡ Some c → u ≡ with_component i (back_in c) v → component_named h u.components ≡ Some (back_in (first_taken T.component))
  ended_so i c p at is =
      let cs = v.components in
      let same : Some c ≡ Some (first_taken T.component) = sym (ap (option_and_then (slice_get cs)) p ∙ at) ∙ named_now in
      let k : c ≡ first_taken T.component = cc in
      let q : place_of h (set cs i (back_in c)) ≡ Some i =
      is_first_place (is_at h) (set cs i (back_in c)) ∙ (place_set (is_at h) cs i c (back_in c) at refl ∙ (sym (is_first_place (is_at h) cs) ∙ p)) in
      let n : component_named h (set cs i (back_in c)) ≡ Some (back_in c) = ap (option_and_then (slice_get (set cs i (back_in c)))) q ∙ set_there cs i c (back_in c) at in
      ap (λ (x : World). component_named h x.components) is ∙ (n ∙ ap (λ (x : Component). Some (back_in x)) k)

  pub fewer_left : notes_left h (look u) < notes_left h (look w)
  fewer_left =
      let i = there_is (place_of h v.components) _ E in
      let c = there_is (slice_get v.components i.0) _ i.2 in
      let rests : IsClosed (with_component i.0 (back_in c.0) v) =
      still_none (seen v.headers) (seen v.headers) (alike_itself (seen v.headers)) v.components i.0 c.0 (back_in c.0) c.1 refl rests_now in
      let only : u ≡ with_component i.0 (back_in c.0) v = closed_closes (with_component i.0 (back_in c.0) v) u rests c.2 in
      let now = left_of h u.components (Some (back_in (first_taken T.component))) (ended_so i.0 c.0 i.1 c.1 only) in
      let before = left_of h w.components (Some T.component) (named_before w h taken v T) in
      let less = one_less (T.component).notes _ T.first in
      omega (arith, now, before, less)

-- ---- no note was there

none_first : (ns : List Note) → slice_get ns 0 ≡ None → length ns ≡ 0
none_first [] e = refl
none_first (n ∷ ns) e = absurd cc

had_some : (w : World) (i : ℕ) (c : Component) (note : Note) (result : Result Took OmxError) (v : World) → had_note result ≡ false → TakeFrom w i c false (Some note) result v → ⊥
had_some w i c (Told event) result v n t = let e : true ≡ false = sym (ap (λ (r : Result Took OmxError). had_note r) t.0) ∙ n in cc
had_some w i c (EmptyDone number) result v n t =
    let x = there_is (find_header number w.headers) _ t in
    let e : true ≡ false = sym (ap (λ (r : Result Took OmxError). had_note r) x.2.0) ∙ n in
    cc
had_some w i c (FillDone number) result v n t =
    let x = there_is (find_header number w.headers) _ t in
    let e : true ≡ false = sym (ap (λ (r : Result Took OmxError). had_note r) x.2.0) ∙ n in
    cc

not_noted : (out : Bool) (w : World) (i : ℕ) (c : Component) (o : Option Note) (result : Result Took OmxError) (v : World) → out ≡ false → slice_get c.notes 0 ≡ o → had_note result ≡ false → TakeFrom w i c out o result v → (length c.notes ≡ 0) × (v ≡ w)
not_noted true w i c o result v b at n t = absurd cc
not_noted false w i c None result v b at n t = (none_first c.notes at, t.1)
not_noted false w i c (Some note) result v b at n t = absurd (had_some w i c note result v n t)

module _ (components : List NamedComponent) (w : World) (h : Handle) (result : Result Took OmxError) (v : World) (A : All (IsSeated components) w.components) (n : had_note result ≡ false) where
  at_place_of : (o : Option ℕ) → place_of h w.components ≡ o
      → MatchOption o ((result ≡ Err errors.InvalidComponent) × (v ≡ w)) (λ i. MatchOption (slice_get w.components i) ⊥ (λ c. TakeFrom w i c c.client_out (slice_get c.notes 0) result v))
      → (notes_left h (look w) ≡ 0) × (v ≡ w)
  at_place_of None p t = (left_of h w.components None (ap (option_and_then (slice_get w.components)) p), t.1)
  at_place_of (Some i) p t =
      let x = there_is (slice_get w.components i) _ t in
      let c = x.0 in
      let k = at_place (IsSeated components) w.components i c A x.1 in
      let y = not_noted c.client_out w i c (slice_get c.notes 0) result v k.0.0 refl n x.2 in
      (left_of h w.components (Some c) (ap (option_and_then (slice_get w.components)) p ∙ x.1) ∙ y.0, y.1)

  pub none_left : TakeNote w h result v → notes_left h (look v) ≡ 0
  none_left t = let x = at_place_of (place_of h w.components) refl t in ap (λ (y : World). notes_left h (look y)) x.1 ∙ x.0

-- ---- both, by the acts of the line

record RanSo (h : Handle) (w u : World) (noted : Bool) : Type 0 where
  fewer : noted ≡ true → notes_left h (look u) < notes_left h (look w)
  none : noted ≡ false → notes_left h (look u) ≡ 0
  stay : (k : Handle) → AreEnding k w → AreEnding k u
  works : HaveNone w → HaveNone u

module _ (components : List NamedComponent) (h : Handle) (w u : World) (progress : Progress) (S : Sound w) (closed : IsClosed w) (A : All (IsSeated components) w.components) where
  ran_none : (result : Result Took OmxError) → had_note result ≡ false → Run w ((acts.TakeNote h, acts.Took result) ∷ []) u → RanSo h w u false
  ran_none result n (v, M, t, e) = record {
    fewer = λ b. absurd cc;
    none = λ b. ap (λ (y : World). notes_left h (look y)) e ∙ none_left components w h result v A n t;
    stay = λ k E. subst (AreEnding k) (sym e) (ending_step k w (acts.TakeNote h) (acts.Took result) v S tt t tt E);
    works = λ A. subst HaveNone (sym e) (none_step w (acts.TakeNote h) (acts.Took result) v S tt t (λ n. refl) A);
  }

  ran : (result : Result Took OmxError) → Run w (taking h result progress) u → RanSo h w u (had_note result)
  ran (Ok (TookNote taken)) (v, M, t, (x, N, e, is)) =
      let T = was_taken w h taken v t in
      let Z = sound_step w v (acts.TakeNote h) (acts.Took (Ok (TookNote taken))) tt t S in
      record {
        fewer = λ b. subst (λ (y : World). notes_left h (look y) < notes_left h (look w)) (sym is) (fewer_left w h taken v x S closed T e);
        none = λ b. absurd cc;
        stay = λ k E. subst (AreEnding k) (sym is) (ending_step k v (acts.EndNote h progress) acts.Ended x Z N e tt (ending_step k w (acts.TakeNote h) (acts.Took (Ok (TookNote taken))) v S tt t tt E));
        works = λ A. subst HaveNone (sym is) (none_step v (acts.EndNote h progress) acts.Ended x Z N e (λ n. refl) (none_step w (acts.TakeNote h) (acts.Took (Ok (TookNote taken))) v S tt t (λ n. refl) A));
      }
  ran (Ok TookNone) R = ran_none (Ok TookNone) refl R
  ran (Ok TookBusy) R = ran_none (Ok TookBusy) refl R
  ran (Err error) R = ran_none (Err error) refl R

-- What taking the oldest note comes to.
pub record TookSo (old new : Look) (h : Handle) (noted : Bool) : Type 0 where
  pub fewer : noted ≡ true → notes_left h new < notes_left h old
  pub none : noted ≡ false → notes_left h new ≡ 0
  pub stay : StayEnded old new

module _ (old new : Kept) (slots news : List Slot) (h : Handle) (answer : LineAnswer) (has : HasNamesFor old slots)
    (f : (components : List NamedComponent) → TakeLeads (record { graph = old; components = components; slots = slots }) (record { graph = new; components = components; slots = news }) h answer) where
  pub took_so : TookSo old.looks new.looks h (is_note answer)
  took_so =
      let components = has.0 in
      let at = (has.1).at in
      let S = (has.1).stood in
      let x = f components in
      let y = x.2 at S in
      let T = y.2 in
      let Z = y.1 in
      let w = at.world in
      let u = (y.0).world in
      let looks = S.world.looks in
      let told : is_note answer ≡ had_note T.result = meant news answer x.0 x.1 ∙ sym (printed_note at.names T.result x.0 T.takes.says) in
      let R = ran components h w u T.progress S.sound (world_rests old w S.world S.rests) (seated_there components old w S.world S.ends.seated) T.result (subst (λ (es : List _). Run w es u) T.takes.both T.run) in
      let before = ap (notes_left h) looks in
      let now = ap (notes_left h) Z.world.looks in
      record {
        fewer = λ e. let l = R.fewer (sym told ∙ e) in omega (arith, l, before, now);
        none = λ e. sym now ∙ R.none (sym told ∙ e);
        stay = record {
          ended = λ k E. ended_of k new u Z.world (R.stay k (ending_of components k old w S.world S.ends.seated E));
          works = λ A. none_here new u Z.world (R.works (none_there old w S.world A));
        };
      }

  pub took_stood : KeepMoments old slots new news
  took_stood components S = let y = (f components).2 S.at S.stood in record { at = y.0; stood = y.1 }

-- ---- one after the other

pub stood_on : (a b c : Kept) (r s t : List Slot) → KeepMoments a r b s → KeepMoments b s c t → KeepMoments a r c t
stood_on a b c r s t A B components S = B components (A components S)

pub stay_on : (l m n : Look) → StayEnded l m → StayEnded m n → StayEnded l n
stay_on l m n A B = record { ended = λ h e. B.ended h (A.ended h e); works = λ w. B.works (A.works w) }

pub has_then : (a b : Kept) (r s : List Slot) → KeepMoments a r b s → HasNamesFor a r → HasNamesFor b s
has_then a b r s A (components, S) = (components, A components S)
