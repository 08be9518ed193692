-- What was given to a component's client, followed by its queue, grows at its end, and by completions that were due.
use Rattle.std.proofs.Common.{◌≡◌, inl, inr, ℕ, zero, suc, List, [], ◌∷◌, ◌++◌, set, slice_get, Option, Some, refl, sym, ◌∙◌, ap, subst, append_assoc}
use Rattle.std.specs.Prelude.{Contains, map, filter}
use Rattle.std.proofs.lemmas.List.{append-nil}
use Rattle.omx_types.specs.declared.command.Completion.{Completion}
use Rattle.omx_types.specs.declared.command.Event.TheVariants as events
use Rattle.omx_types.specs.declared.command.Note.{Note}
use Rattle.omx_types.specs.declared.command.Note.TheVariants.{Told}
use Rattle.il_machine.specs.World.{Component, World, Given, number_of}
use Rattle.il_machine.specs.Components.{is_given_to}
use Rattle.il_machine.specs.Due.{Happens, HappenTimes, ClosesTo}
use Rattle.il_machine.specs.Queued.{queued_for, notes_given, notes_of, completions_in, Tells, WasDue, WasDueBehind, Queues}
use Rattle.history_laws.proofs.Named.{named, is_named, named_number, named_set}
use Rattle.history_laws.proofs.Growth.{Grows, Says, IsSaying, first_said, said_front, split_in, none_contained, none_in, in_either, completions_append}
use Rattle.history_laws.proofs.Closing.{happening_of}

-- The component of the number is there after, and what was queued for it grew at its end by completions of the property.
pub record Advances (T : Completion → Type 0) (number : ℕ) (w v : World) : Type 0 where
  pub component : Component
  pub there : named number v.components ≡ Some component
  pub added : List Note
  pub grows : queued_for number v ≡ queued_for number w ++ added
  pub tells : (x : Completion) → Contains (completions_in added) x → T x

pub queued_is : (number : ℕ) (w : World) (c : Component) → named number w.components ≡ Some c → queued_for number w ≡ notes_given number w ++ c.notes
queued_is number w c e = ap (λ (o : Option Component). notes_given number w ++ notes_of o) (is_named number w ∙ e)

pub advances_not : (T : Completion → Type 0) (number : ℕ) (w v : World) (e : Component) → named number v.components ≡ Some e → queued_for number v ≡ queued_for number w → Advances T number w v
advances_not T number w v e there q = record {
  component = e;
  there = there;
  added = [];
  grows = q ∙ sym (append-nil (queued_for number w));
  tells = λ x h. absurd (none_in x h);
}

pub advances_on : (T : Completion → Type 0) (number : ℕ) (w m v : World) → Advances T number w m → Advances T number m v → Advances T number w v
advances_on T number w m v A B = record {
  component = B.component;
  there = B.there;
  added = A.added ++ B.added;
  grows = B.grows ∙ (ap (λ (l : List Note). l ++ B.added) A.grows ∙ append_assoc (queued_for number w) A.added B.added);
  tells = λ x h. in_either T (completions_in A.added) (completions_in B.added) A.tells B.tells x (subst (λ (l : List Completion). Contains l x) (completions_append A.added B.added) h);
}

pub advances_as : (T S : Completion → Type 0) (number : ℕ) (w v : World) → ((x : Completion) → T x → S x) → Advances T number w v → Advances S number w v
advances_as T S number w v f A = record { component = A.component; there = A.there; added = A.added; grows = A.grows; tells = λ x h. f x (A.tells x h) }

given_same : (number : ℕ) (w v : World) → v.given ≡ w.given → notes_given number v ≡ notes_given number w
given_same number w v g = ap (λ (l : List Given). map (λ (x : Given). x.note) (filter (is_given_to number) l)) g

-- One component gives way to another whose notes are more. What is added has the property P.
advances_by : (T : Completion → Type 0) (P : List Note → Type 0) (number i : ℕ) (w v : World) (c d e : Component) (added : List Note) → slice_get w.components i ≡ Some c → v.components ≡ set w.components i d → v.given ≡ w.given
    → number_of d ≡ number_of c → d.notes ≡ c.notes ++ added → named number w.components ≡ Some e → P []
    → (number_of c ≡ number → queued_for number v ≡ queued_for number w ++ added → P added × ((x : Completion) → Contains (completions_in added) x → T x)) → (A : Advances T number w v) × P A.added
unfolding advances_not
advances_by T P number i w v c d e added at cs g same notes was nothing tells =
    let gs = given_same number w v g in
    elim (named_set number i w.components c d e at same was) [
      | inl h ↦
          let there : named number v.components ≡ Some d = rw cs h.1 in
          let q : queued_for number v ≡ queued_for number w ++ added =
          queued_is number v d there
          ∙ (rw (gs, notes) (sym (append_assoc (notes_given number w) c.notes added))
          ∙ ap (λ (l : List Note). l ++ added) (sym (queued_is number w c (was ∙ ap (λ (x : Component). Some x) h.0)))) in
          let n : number_of c ≡ number = ap number_of (sym h.0) ∙ named_number number w.components e was in
          let t = tells n q in
          (record { component = d; there = there; added = added; grows = q; tells = t.1 }, t.0)
      | inr h ↦
          let there : named number v.components ≡ Some e = rw cs h in
          let q : queued_for number v ≡ queued_for number w = queued_is number v e there ∙ (ap (λ (l : List Note). l ++ e.notes) gs ∙ sym (queued_is number w e was)) in
          (advances_not T number w v e there q, nothing)
    ]

pub advances_set : (T : Completion → Type 0) (number i : ℕ) (w v : World) (c d e : Component) → slice_get w.components i ≡ Some c → v.components ≡ set w.components i d → v.given ≡ w.given
    → Grows T c d → named number w.components ≡ Some e → Advances (λ x. (number_of c ≡ number) × T x) number w v
advances_set T number i w v c d e at cs g G was =
    (advances_by (λ x. (number_of c ≡ number) × T x) (λ l. Unit {0}) number i w v c d e G.added at cs g G.number G.notes was tt (λ n q. (tt, (λ x k. (n, G.tells x k))))).0

-- The completion is told, before all else that is new.
abbrev IsTold : ℕ → World → World → Completion → Type 0
IsTold number w v x = (behind : List Note) × (queued_for number v ≡ queued_for number w ++ Told (events.CmdComplete x) ∷ behind)

-- it is told by the component of the number
abbrev IsToldBy : (Completion → Type 0) → Component → ℕ → World → World → Completion → Type 0
IsToldBy T c number w v x = (number_of c ≡ number) × T x × IsTold number w v x

saying_told : (T : Completion → Type 0) (c : Component) (number : ℕ) (w v : World) (added : List Note) → IsSaying T added → number_of c ≡ number → queued_for number v ≡ queued_for number w ++ added → IsSaying (IsToldBy T c number w v) added
saying_told T c number w v added (inl none) n q = inl none
saying_told T c number w v added (inr (y, behind, is, t, none)) n q = inr (y, behind, is, (n, t, (behind, q ∙ ap (λ (l : List Note). queued_for number w ++ l) is)), none)

advances_said : (T : Completion → Type 0) (number i : ℕ) (w v : World) (c d e : Component) → slice_get w.components i ≡ Some c → v.components ≡ set w.components i d → v.given ≡ w.given
    → Says T c d → named number w.components ≡ Some e → (A : Advances (IsToldBy T c number w v) number w v) × IsSaying (IsToldBy T c number w v) A.added
advances_said T number i w v c d e at cs g G was =
    let B : Completion → Type 0 = IsToldBy T c number w v in
    advances_by B (IsSaying B) number i w v c d e G.added at cs g G.number G.notes was (inl refl)
    (λ n q.
    let said = saying_told T c number w v G.added G.saying n q in
    (said, (λ x k. (first_said B G.added x said k).0)))

-- ---- the close-out

later_due : (number : ℕ) (w m v : World) (x : Completion) → WasDue w m number x → Happens m v → WasDue w v number x
later_due number w m v x D h = record {
  before = D.before;
  after = D.after;
  earlier = D.earlier;
  later = suc D.later;
  reached = D.reached;
  happens = D.happens;
  goes_on = (m, D.goes_on, h);
  whose = D.whose;
  tells = D.tells;
  behind = D.behind;
  told = D.told;
}

-- each completion among what is added was due when just those before it were queued
abbrev IsInOrder : ℕ → World → World → List Note → Type 0
IsInOrder number w v added = (front rest : List Note) (x : Completion) → added ≡ front ++ Told (events.CmdComplete x) ∷ rest → WasDueBehind w v number front x

due_now : (n number : ℕ) (w m v : World) (x : Completion) → HappenTimes n w m → (h : Happens m v) → IsToldBy (Tells h.component h.thing) h.component number m v x → WasDue w v number x
due_now n number w m v x before h t = record {
  before = m;
  after = v;
  earlier = n;
  later = 0;
  reached = before;
  happens = h;
  goes_on = refl;
  whose = t.0;
  tells = t.1;
  behind = (t.2).0;
  told = (t.2).1;
}

in_order : (n number : ℕ) (w m v : World) (A B : List Note) → HappenTimes n w m → (h : Happens m v) → IsInOrder number w m A → queued_for number m ≡ queued_for number w ++ A → IsSaying (IsToldBy (Tells h.component h.thing) h.component number m v) B
    → IsInOrder number w v (A ++ B)
unfolding later_due due_now
in_order n number w m v A B before h O q said = λ front rest x e. elim (split_in A B front rest (Told (events.CmdComplete x)) e) [
  | inl (more, is) ↦ let d = O front more x is in (later_due number w m v x d.0 h, d.1)
  | inr (further, is, k) ↦
      let f = said_front (IsToldBy (Tells h.component h.thing) h.component number m v) B further rest x said k in
      let whole : front ≡ A = is ∙ (ap (λ (l : List Note). A ++ l) f.0 ∙ append-nil A) in
      (due_now n number w m v x before h f.1, q ∙ ap (λ (l : List Note). queued_for number w ++ l) (sym whole))
]

-- what the close-out adds, in its order
closing : (n : ℕ) (number : ℕ) (w v : World) (e : Component) → HappenTimes n w v → named number w.components ≡ Some e → (A : Advances (WasDue w v number) number w v) × IsInOrder number w v A.added
unfolding advances_not advances_on advances_as
closing zero number w v e s was = (advances_not (WasDue w v number) number w v e (rw s was) (ap (queued_for number) s), λ front rest x k. absurd (empty_apart front rest (Told (events.CmdComplete x)) k))
  where
    empty_apart : (front rest : List Note) (note : Note) → [] ≡ front ++ note ∷ rest → ⊥
    empty_apart [] rest note k = cc
    empty_apart (y ∷ front) rest note k = cc
closing (suc n) number w v e (mid, before, last) was =
    let X = closing n number w mid e before was in
    let A = X.0 in
    let H = happening_of mid v last in
    let T : Completion → Type 0 = Tells last.component last.thing in
    let Y = advances_said T number last.place mid v last.component H.component A.component last.there H.components H.given H.grows A.there in
    let B = Y.0 in (
      advances_on (WasDue w v number) number w mid v
          (advances_as (WasDue w mid number) (WasDue w v number) number w mid (λ x D. later_due number w mid v x D last) A)
          (advances_as (IsToldBy T last.component number mid v) (WasDue w v number) number mid v (λ x t. due_now n number w mid v x before last t) B),
      in_order n number w mid v A.added B.added before last X.1 A.grows Y.1,
    )

pub closing_advances : (n : ℕ) (number : ℕ) (w v : World) (e : Component) → HappenTimes n w v → named number w.components ≡ Some e → Advances (WasDue w v number) number w v
closing_advances n number w v e h was = (closing n number w v e h was).0

-- An act that tells no completion, and then the close-out.
pub step_queues : (number : ℕ) (w mid v : World) → Advances (λ x. ⊥) number w mid → ClosesTo mid v → Queues w mid v number
step_queues number w mid v A C =
    let X = closing C.steps number mid v A.component C.by_steps A.there in
    let B = X.0 in
    record {
      early = A.added;
      acted = A.grows;
      silent = none_contained (completions_in A.added) A.tells;
      added = B.added;
      grows = B.grows;
      due = B.tells;
      placed = X.1;
    }
