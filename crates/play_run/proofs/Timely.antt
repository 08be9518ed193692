-- What a client asks stays in time as its steps go on.
use Rattle.std.proofs.Common.{◌≡◌, ◌≤◌, true, false, List, [], ◌∷◌, ◌++◌, length, refl, sym, ◌∙◌, ap, subst, append-nil, append_assoc, length-append, arith}
use Rattle.omx_types.specs.declared.handle.Handle.{Handle}
use Rattle.il_machine.specs.Acts.{Act, Reply}
use Rattle.play_build_laws.specs.Assembly.{Assembly}
use Rattle.play_result_laws.specs.Asked.{Asking, HasCause, IsDone, acts_of, asked, is_asked}
use Rattle.play_result_laws.proofs.InTime.{all, all_more, first_in_time, rest_in_time, timely_asked, timely_beyond, timely_unasked}
use Rattle.play_result_laws.proofs.ListFronts.{kept_not, kept_too}
use Rattle.play_run.specs.Asking.{IsAsking, IsInTime}

module _ (s : Assembly) (handles : List Handle) where
  -- ---- what is asked goes on

  -- where nothing is left to be asked, what needs no asking is done
  pub asking_rests : (list : List Asking) (xs : List (Act × Reply)) (x : Act × Reply) → is_asked x ≡ false → IsAsking s handles list [] xs → IsAsking s handles list [] (xs ++ x ∷ [])
  asking_rests list xs x u A = record {
    made = ap (λ (ys : List (Act × Reply)). ys ++ []) (kept_not is_asked xs x u) ∙ A.made;
    timely = timely_unasked s handles is_asked list xs x u A.timely;
    now = λ b. absurd (omega (arith, b));
    last = λ b. absurd (omega (arith, b));
  }

  -- one more asking begins
  pub asking_begins : (list : List Asking) (next : Asking) (xs : List (Act × Reply)) → (1 ≤ length (acts_of s handles next) → 1 ≤ length handles) → ((one : Asking) (front : List Asking) → list ≡ front ++ one ∷ [] → IsDone s one xs × HasCause s next xs)
      → IsAsking s handles list [] xs → IsAsking s handles (list ++ next ∷ []) (acts_of s handles next) xs
  asking_begins list next xs n D A =
      let whole : asked xs ≡ all s handles list = sym (append-nil (asked xs)) ∙ A.made in
      record {
        made = ap (λ (ys : List (Act × Reply)). ys ++ acts_of s handles next) whole ∙ sym (all_more s handles list next);
        timely = timely_beyond s handles is_asked list (next ∷ []) [] xs A.made A.timely;
        now = λ b. first_in_time s handles is_asked list next xs (n b) whole D;
        last = λ b. (list, next, refl, omega arith);
      }

  -- the next act of the last one is asked
  pub asking_goes : (list : List Asking) (x : Act × Reply) (left xs : List (Act × Reply)) → is_asked x ≡ true → IsAsking s handles list (x ∷ left) xs → IsAsking s handles list left (xs ++ x ∷ [])
  asking_goes list x left xs t A =
      let made : asked (xs ++ x ∷ []) ++ left ≡ all s handles list = ap (λ (ys : List (Act × Reply)). ys ++ left) (kept_too is_asked xs x t) ∙ (append_assoc (asked xs) (x ∷ []) left ∙ A.made) in
      let L = A.last (omega arith) in
      let few = L.3 in
      record {
        made = made;
        timely = timely_asked s handles is_asked list xs x (A.now (omega arith)) A.timely;
        now = λ b.
            (let n = ap length (made ∙ (ap (all s handles) L.2 ∙ all_more s handles L.0 L.1)) in
            let m = length-append (asked (xs ++ x ∷ [])) left in
            let q = length-append (all s handles L.0) (acts_of s handles L.1) in
            subst (λ (ls : List Asking). IsInTime s handles ls (xs ++ x ∷ [])) (sym L.2) (rest_in_time s handles is_asked L.0 L.1 (xs ++ x ∷ []) (omega (arith, n, m, q, few))));
        last = λ b. (L.0, L.1, L.2, omega (arith, few));
      }
