-- Lines whose act hands a header in: it is taken out of its slot, and comes back there where the act is refused.
use Rattle.std.proofs.Common.{◌≡◌, ℕ, zero, suc, Bool, List, [], ◌∷◌, set, position, slice_get, Option, Some, None, option_map, MatchOption, refl, sym, ◌∙◌, ap, subst}
use Rattle.std.specs.Prelude.{option_and_then, IfSome}
use Rattle.il_machine.specs.Look.{look}
use Rattle.il_machine.specs.World.{World}
use Rattle.il_machine.specs.Buffers.{Held}
use Rattle.il_machine.specs.Acts.{Act, Reply}
use Rattle.il_machine.specs.Run.{Step, Meets}
use Rattle.il_machine.specs.Whole.{Kept, Stands, Steps}
use Rattle.machine_laws.proofs.Every.{set_there}
use Rattle.machine_laws.proofs.Keys.{at_there, there_is}
use Rattle.machine_laws.proofs.Pairs.{set_same}
use Rattle.machine_laws.proofs.Steps.{sound_step}
use Rattle.history_laws.specs.ClientHeaders.{taken_in}
use Rattle.header_core.specs.BufferHeader.{BufferHeader}
use Rattle.graph_core.specs.Changes.{IsHandedIn}
use Rattle.act_text.specs.declared.name.PortName.{PortName}
use Rattle.act_text.specs.declared.reply.TextReply.TheVariants as texts
use Rattle.script_lang.specs.declared.form.TraceForm.{TraceForm}
use Rattle.script_lang.specs.declared.form.TraceForm.TheVariants as forms
use Rattle.trace_run.specs.declared.slots.Slot.{Slot}
use Rattle.trace_run.specs.Naming.{Moment, Names, NamedHeader, hand_of, in_hand, is_named, with_hand}
use Rattle.trace_run.specs.Replying.{LineReply, Plain}
use Rattle.trace_run.specs.Lines.{InHand, Line}
use Rattle.trace_run.specs.InHand.{IsTakenOut, HasNone}
use Rattle.trace_run.specs.Standing.{Parts, held_as, holding, names_in, slot_named, HasEmptyHand, Rehanded, Hands, IsMoment, HasMoment, Leads}
use Rattle.trace_run.proofs.Ends.{none_out, ports_emptied, ports_holding, ends_with}
use Rattle.trace_run.proofs.Made.{made_by}
use Rattle.history_laws.proofs.Cores.{NoneGot, NoneTaken}
use Rattle.trace_run.proofs.SlotLists.{first_changes, first_passes, none_passes, hands_kept, hands_with, hands_without}
use Rattle.trace_run.proofs.Standing.{keeps_all, keeps_others, known_kept, known_set, looks_grow, named_kept, rests_after, run_of_one}

-- ---- a slot's hand

when_none : {A : Type 0} (o : Option A) (N : Type 0) (P : A → Type 0) → o ≡ None → N → MatchOption o N P
when_none o N P e h = rw e h

pub when_some : {A : Type 0} (o : Option A) (N : Type 0) (P : A → Type 0) (x : A) → o ≡ Some x → P x → MatchOption o N P
when_some o N P x e h = rw e h

if_some : {A : Type 0} (o : Option A) (P : A → Type 0) (x : A) → o ≡ Some x → IfSome o P → P x
if_some o P x e h = rw e at h

set_twice : {X : Type 0} (xs : List X) (i : ℕ) (x y : X) → set (set xs i x) i y ≡ set xs i y
set_twice [] i x y = refl
set_twice (z ∷ xs) zero x y = refl
set_twice (z ∷ xs) (suc i) x y = ap (λ (l : List _). z ∷ l) (set_twice xs i x y)

-- what was in the hand of the first slot of the name was taken out
pub taken_out : (slots : List Slot) (name : List ℕ) (place : ℕ) (hand o : Option BufferHeader) (without : List Slot) → Some place ≡ position (slot_named name) slots → MatchOption (slice_get slots place) ⊥ (λ slot. hand ≡ slot.hand) → hand ≡ o
    → Rehanded place None slots without → IsTakenOut slots name place o without
taken_out slots name place hand o without p h e R =
    let x = there_is (slice_get slots place) (λ slot. hand ≡ slot.hand) h in
    record {
      slot = x.0;
      first = sym p;
      there = x.1;
      hand_is = sym x.2 ∙ e;
      taken = at_there (slice_get slots place) (λ slot. without ≡ set slots place (holding None slot)) x.0 x.1 R;
    }

-- the place in the slice is the one in the list
pub at_list : (slots slice : List Slot) (name : List ℕ) (o : Option ℕ) → slice ≡ slots → o ≡ position (slot_named name) slice → o ≡ position (slot_named name) slots
at_list slots slice name o e p = p ∙ ap (position (slot_named name)) e

-- what came back is what was handed in
pub same_back : (place : ℕ) (back header : BufferHeader) (without now : List Slot) → back ≡ header → Rehanded place (Some back) without now → Rehanded place (Some header) without now
same_back place back header without now e R = subst (λ (h : BufferHeader). Rehanded place (Some h) without now) e R

module _ (slots : List Slot) (name : List ℕ) (place : ℕ) (hand : Option BufferHeader) (without : List Slot) (T : IsTakenOut slots name place hand without) where
  cleared : slice_get without place ≡ Some (holding None T.slot)
  cleared = ap (λ (l : List Slot). slice_get l place) T.taken ∙ set_there slots place T.slot (holding None T.slot) T.there

  pub hand_empty : HasEmptyHand place without
  hand_empty = rw cleared refl

  -- that is in its hand in its place
  pub put_back : (other : Option BufferHeader) (now : List Slot) → Rehanded place other without now → now ≡ set slots place (holding other T.slot)
  put_back other now R =
      let s = T.slot in
      let e : now ≡ set without place (holding other s) = at_there (slice_get without place) (λ slot. now ≡ set without place (holding other slot)) (holding None s) cleared R in
      e ∙ (ap (λ (l : List Slot). set l place (holding other s)) T.taken ∙ set_twice slots place (holding None s) (holding other s))

  same_hand : set slots place (holding hand T.slot) ≡ slots
  same_hand = ap (λ (o : Option BufferHeader). set slots place (holding o T.slot)) (sym T.hand_is) ∙ set_same slots place T.slot T.there

  pub put_back_same : (now : List Slot) → Rehanded place hand without now → now ≡ slots
  put_back_same now R = put_back hand now R ∙ same_hand

  pub hand_named : in_hand (names_in [] slots) name ≡ option_map held_as hand
  hand_named = ap (option_and_then hand_of) (first_passes (is_named name) slots place T.slot T.first T.there) ∙ ap (option_map held_as) T.hand_is

pub none_taken : (slots : List Slot) (name : List ℕ) (place : ℕ) (without : List Slot) → IsTakenOut slots name place None without → HasNone slots name × (without ≡ slots)
none_taken slots name place without T = (hand_named slots name place None without T, T.taken ∙ same_hand slots name place None without T)

pub none_named : (slots : List Slot) (name : List ℕ) → None ≡ position (slot_named name) slots → HasNone slots name
none_named slots name p = ap (option_and_then hand_of) (none_passes (is_named name) slots (sym p))

-- ---- lines that make no act

pub stays : (old : Parts) (slots : List Slot) (form : TraceForm) (reply : LineReply) → slots ≡ old.slots → ((at : Moment) → IsMoment old at → Line at form [] reply at.names) → Leads old (record old { slots = slots }) form reply
stays old slots form reply e l =
    subst (λ (ss : List Slot). Leads old (record old { slots = ss }) form reply) (sym e) (λ at S. (at, S, record { entries = []; says = l at S; run = refl }))

in_hand_now : (old : Parts) (name : List ℕ) (hand : Option Held) → in_hand (names_in [] old.slots) name ≡ hand → (at : Moment) → IsMoment old at → in_hand at.names name ≡ hand
in_hand_now old name hand h at S = ap (λ (names : Names). in_hand names name) S.names ∙ h

none_held : (at : Moment) (name : List ℕ) (Then : Held → Type 0) → in_hand at.names name ≡ None → InHand at name [] (Plain texts.NotHeld) at.names Then
none_held at name Then e = when_none (in_hand at.names name) _ Then e (record { none = refl; says = refl; same = refl })

pub not_freed : (old : Parts) (name : List ℕ) (port : PortName) (slots : List Slot) → slots ≡ old.slots → HasNone old.slots name → Leads old (record old { slots = slots }) (forms.FreeBuf name port) (Plain texts.NotHeld)
not_freed old name port slots e n = stays old slots (forms.FreeBuf name port) (Plain texts.NotHeld) e (λ at S. none_held at name _ (in_hand_now old name None n at S))

pub not_emptied : (old : Parts) (name : List ℕ) (port : PortName) (bytes : List ℕ) (eos : Bool) (slots : List Slot) → slots ≡ old.slots → HasNone old.slots name
    → Leads old (record old { slots = slots }) (forms.Etb name port bytes eos) (Plain texts.NotHeld)
not_emptied old name port bytes eos slots e n = stays old slots (forms.Etb name port bytes eos) (Plain texts.NotHeld) e (λ at S. none_held at name _ (in_hand_now old name None n at S))

pub not_filled : (old : Parts) (name : List ℕ) (port : PortName) (slots : List Slot) → slots ≡ old.slots → HasNone old.slots name → Leads old (record old { slots = slots }) (forms.Ftb name port) (Plain texts.NotHeld)
not_filled old name port slots e n = stays old slots (forms.Ftb name port) (Plain texts.NotHeld) e (λ at S. none_held at name _ (in_hand_now old name None n at S))

-- ---- the header in hand

module _ (old : Parts) (name : List ℕ) (place : ℕ) (header : BufferHeader) (without : List Slot) (T : IsTakenOut old.slots name place (Some header) without) where
  pub in_hand_of : (at : Moment) → IsMoment old at → in_hand at.names name ≡ Some header.held
  in_hand_of at S = in_hand_now old name (Some header.held) (hand_named old.slots name place (Some header) without T) at S

  pub is_hand : Hands old.slots (old.graph).looks → (header.held.number ≡ (T.slot).number) × IsHandedIn header (old.graph).looks
  is_hand H = if_some (T.slot).hand (λ h. (h.held.number ≡ (T.slot).number) × IsHandedIn h (old.graph).looks) header T.hand_is (H.each place T.slot T.there)

  pub may_be_handed : HasMoment old → IsHandedIn header (old.graph).looks
  may_be_handed S = (is_hand (S.stood).hands).1

  -- the header, as it is handed in, is the same one
  pub record IsSameHeader (given : BufferHeader) : Type 0 where
    pub number : given.held.number ≡ header.held.number
    pub handed : IsHandedIn given (old.graph).looks

  module _ (graph : Kept) (form : TraceForm) (a : Act) (r : Reply) (reply : LineReply) (given : BufferHeader) (G : (at : Moment) → IsMoment old at → IsSameHeader given) (M : (w : World) → Stands old.graph w → Meets w a) (n : NoneGot a r) (m : made_by a r ≡ None) (q : NoneTaken a r)
      (steps : Steps old.graph graph (λ w v. Step w a r v)) where
    numbered : (at : Moment) → IsMoment old at → given.held.number ≡ (T.slot).number
    numbered at S = (G at S).number ∙ (is_hand S.hands).0

    names_now : (at : Moment) (hand : Option BufferHeader) → IsMoment old at → with_hand (is_named name) (option_map held_as hand) at.names ≡ names_in old.components (set old.slots place (holding hand T.slot))
    names_now at hand S =
        ap (with_hand (is_named name) (option_map held_as hand)) S.names
        ∙ ap (λ (hs : List NamedHeader). record { components = old.components; headers = hs }) (sym (first_changes (is_named name) hand old.slots place T.slot T.first T.there))

    -- the act took it in
    pub went_in : taken_in a r ≡ Some given.held.number → ((at : Moment) → IsMoment old at → Line at form ((a, r) ∷ []) reply (with_hand (is_named name) None at.names))
        → Leads old (record { graph = graph; components = old.components; slots = set old.slots place (holding None T.slot) }) form reply
    went_in t l at S =
        let w = at.world in
        let x = steps w S.world in
        let v = x.0 in
        let meets = M w S.world in (
          record { world = v; names = with_hand (is_named name) None at.names },
          record {
            world = x.1;
            rests = rests_after old.graph graph w a r v S.world x.1 x.2 S.rests;
            names = names_now at None S;
            sound = sound_step w v a r meets x.2 S.sound;
            named = named_kept old.components w a r v S.sound meets x.2 n S.named;
            known = known_set old.slots (look v) place T.slot None T.there (known_kept old.slots w a r v S.sound meets x.2 m S.known);
            hands = hands_without old.slots (old.graph).looks graph.looks place T.slot given T.there (numbered at S) (keeps_others old.graph graph w a r v given S.world x.1 S.sound meets x.2 t) (looks_grow old.graph graph w a r v S.world x.1 S.sound meets x.2) S.hands;
            ends = ends_with old graph w a r v S.world x.1 S.sound meets x.2 n q S.ends (set old.slots place (holding None T.slot))
                (ports_emptied old.graph graph w a r v S.world x.1 S.sound meets x.2 old.components old.slots S.hands S.ends.slots place T.slot given.held.number T.there (numbered at S) t (none_out a r m q));
          },
          record { entries = (a, r) ∷ []; says = l at S; run = run_of_one w a r v meets x.2 },
        )

    -- it was refused
    pub came_back : taken_in a r ≡ None → ((at : Moment) → IsMoment old at → Line at form ((a, r) ∷ []) reply (with_hand (is_named name) (Some given.held) at.names))
        → Leads old (record { graph = graph; components = old.components; slots = set old.slots place (holding (Some given) T.slot) }) form reply
    came_back t l at S =
        let w = at.world in
        let x = steps w S.world in
        let v = x.0 in
        let meets = M w S.world in
        let K = keeps_all old.graph graph w a r v S.world x.1 S.sound meets x.2 t in (
          record { world = v; names = with_hand (is_named name) (Some given.held) at.names },
          record {
            world = x.1;
            rests = rests_after old.graph graph w a r v S.world x.1 x.2 S.rests;
            names = names_now at (Some given) S;
            sound = sound_step w v a r meets x.2 S.sound;
            named = named_kept old.components w a r v S.sound meets x.2 n S.named;
            known = known_set old.slots (look v) place T.slot (Some given) T.there (known_kept old.slots w a r v S.sound meets x.2 m S.known);
            hands = hands_with old.slots graph.looks place T.slot given T.there (numbered at S) (K given (G at S).handed)
                (hands_kept old.slots (old.graph).looks graph.looks K (looks_grow old.graph graph w a r v S.world x.1 S.sound meets x.2) S.hands);
            ends = ends_with old graph w a r v S.world x.1 S.sound meets x.2 n q S.ends (set old.slots place (holding (Some given) T.slot))
                (ports_holding old.graph graph w a r v S.world x.1 S.sound meets x.2 old.components old.slots S.hands S.ends.slots place T.slot given T.there (none_out a r m q));
          },
          record { entries = (a, r) ∷ []; says = l at S; run = run_of_one w a r v meets x.2 },
        )
