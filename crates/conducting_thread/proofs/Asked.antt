-- What a pass has asked more, one after another.
use Rattle.std.proofs.Common.{◌≡◌, Bool, true, false, List, [], ◌∷◌, ◌++◌, refl, sym, ◌∙◌, ap, subst, append-nil, append_assoc}
use Rattle.il_machine.specs.Acts as acts
use Rattle.turnstile.specs.declared.entry.Entry.{Entry}
use Rattle.graph_acts.specs.declared.act.Act.{Act}
use Rattle.graph_acts.specs.declared.act.Reply.{Reply}
use Rattle.graph_acts.specs.Plain.{Sight}
use Rattle.board.specs.Asking.{ArePlain, IsPlain}
use Rattle.conducting_thread.specs.Asking.{AreAnswered, HasAsked}

module _ {S K C : Type 0} (see : Sight S K C) where
  abbrev Entries : Type 0
  Entries = List (Entry (Act S K C) (Reply S K C))

  abbrev Steps : Type 0
  Steps = List (acts.Act × acts.Reply)

  -- the machine's acts and replies of two histories, one behind the other
  pub record AreSplit (one more : Entries) (xs : Steps) : Type 0 where
    pub front : Steps
    pub back : Steps
    pub is : xs ≡ front ++ back
    pub plain : ArePlain see one front
    pub others : ArePlain see more back

  pub split : (one more : Entries) (xs : Steps) → ArePlain see (one ++ more) xs → AreSplit one more xs
  split [] more xs p = record { front = []; back = xs; is = refl; plain = tt; others = p }
  split (e ∷ one) more [] p = absurd p
  split (e ∷ one) more (x ∷ xs) p =
      let R = split one more xs p.1 in
      record { front = x ∷ R.front; back = R.back; is = ap (λ (zs : Steps). x ∷ zs) R.is; plain = (p.0, R.plain); others = R.others }

  none_stand : (xs : Steps) → ArePlain see [] xs → xs ≡ []
  none_stand [] p = refl
  none_stand (x ∷ xs) p = absurd p

  pub asked_none : (old : Entries) → HasAsked see old [] old
  asked_none old = record { made = []; added = sym (append-nil old); stand = none_stand }

  -- one entry, which stands for one step
  pub asked_one : (old new : Entries) (e : Entry (Act S K C) (Reply S K C)) (step : acts.Act × acts.Reply) → new ≡ old ++ e ∷ [] → ((x : acts.Act × acts.Reply) → IsPlain see e x → x ≡ step) → HasAsked see old (step ∷ []) new
  asked_one old new e step at only = record { made = e ∷ []; added = at; stand = stands }
    where
      stands : (xs : Steps) → ArePlain see (e ∷ []) xs → xs ≡ step ∷ []
      stands [] p = absurd p
      stands (x ∷ xs) p = (λ i. only x p.0 i ∷ none_stand xs p.1 i)

  pub asked_more : (old mid new : Entries) (xs ys : Steps) → HasAsked see old xs mid → HasAsked see mid ys new → HasAsked see old (xs ++ ys) new
  asked_more old mid new xs ys A B = record {
    made = A.made ++ B.made;
    added = B.added ∙ (ap (λ (l : Entries). l ++ B.made) A.added ∙ append_assoc old A.made B.made);
    stand = λ zs p.
        let R = split A.made B.made zs p in R.is ∙ (λ i. A.stand R.front R.plain i ++ B.stand R.back R.others i);
  }

  -- ---- what is due

  pub answered_none : (old : Entries) → AreAnswered see old [] true old
  answered_none old = asked_none old

  -- behind what was answered as is due
  pub answered_more : (old mid new : Entries) (xs ys : Steps) (ok : Bool) → HasAsked see old xs mid → AreAnswered see mid ys ok new → AreAnswered see old (xs ++ ys) ok new
  answered_more old mid new xs ys true A B = asked_more old mid new xs ys A B
  answered_more old mid new xs ys false A B =
      let before : Steps = xs ++ B.made in record {
        made = before;
        expected = B.expected;
        left = B.left;
        reply = B.reply;
        more = B.more;
        are_due = ap (λ (zs : Steps). xs ++ zs) B.are_due ∙ sym (append_assoc xs B.made (B.expected ∷ B.left));
        other = B.other;
        asked = subst (λ (zs : Steps). HasAsked see old zs new) (sym (append_assoc xs B.made (((B.expected).0, B.reply) ∷ B.more))) (asked_more old mid new xs (B.made ++ ((B.expected).0, B.reply) ∷ B.more) A B.asked);
      }

  -- and where not all was, nothing more is asked
  pub answered_no_more : (old new : Entries) (xs ys : Steps) → AreAnswered see old xs false new → AreAnswered see old (xs ++ ys) false new
  answered_no_more old new xs ys A = record {
    made = A.made;
    expected = A.expected;
    left = A.left ++ ys;
    reply = A.reply;
    more = A.more;
    are_due = ap (λ (zs : Steps). zs ++ ys) A.are_due ∙ append_assoc A.made (A.expected ∷ A.left) ys;
    other = A.other;
    asked = A.asked;
  }
