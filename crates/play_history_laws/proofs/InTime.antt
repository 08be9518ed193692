-- Requests that go on stay in time: the askings that were begun, and what is left of the last.
use Rattle.std.proofs.Common.{◌≡◌, ◌+◌, ◌≤◌, true, false, List, [], ◌∷◌, ◌++◌, length, refl, sym, ◌∙◌, ap, subst, append-nil, append_assoc, length-append, arith}
use Rattle.std.specs.Prelude.{flat_map}
use Rattle.omx_types.specs.declared.handle.Handle.{Handle}
use Rattle.il_machine.specs.Acts.{Act, Reply}
use Rattle.play_build_laws.specs.Assembly.{Assembly}
use Rattle.play_result_laws.specs.Asked.{Asking, HasCause, IsDone, acts_of}
use Rattle.play_history_laws.specs.Requests.{AreInTime, is_request, requests}
use Rattle.play_result_laws.proofs.InTime.{IsNowBy, all, all_more, first_in_time, rest_in_time, timely_asked, timely_beyond, timely_unasked}
use Rattle.play_result_laws.proofs.ListFronts.{kept_not, kept_too}

-- All of these was requested but what is left of the last, of which some was.
pub record IsRequesting (s : Assembly) (handles : List Handle) (list : List Asking) (left steps : List (Act × Reply)) : Type 0 where
  pub made : requests steps ++ left ≡ flat_map (acts_of s handles) list
  pub timely : AreInTime s handles list steps
  pub last : 1 ≤ length left → (front : List Asking) × (one : Asking) × (list ≡ front ++ one ∷ []) × (length left + 1 ≤ length (acts_of s handles one))

module _ (s : Assembly) (handles : List Handle) where
  -- ---- what is requested goes on

  -- nothing is yet
  pub requests_none : IsRequesting s handles [] [] []
  requests_none = record { made = refl; timely = λ k one next before after step a b e t h. absurd cc; last = λ b. absurd (omega (arith, b)) }

  -- what is no request changes nothing
  pub requests_rest : (list : List Asking) (left xs : List (Act × Reply)) (x : Act × Reply) → is_request x ≡ false → IsRequesting s handles list left xs → IsRequesting s handles list left (xs ++ x ∷ [])
  requests_rest list left xs x u A = record {
    made = ap (λ (ys : List (Act × Reply)). ys ++ left) (kept_not is_request xs x u) ∙ A.made;
    timely = timely_unasked s handles is_request list xs x u A.timely;
    last = A.last;
  }

  made_on : (list : List Asking) (x : Act × Reply) (left xs : List (Act × Reply)) → is_request x ≡ true → requests xs ++ x ∷ left ≡ all s handles list → requests (xs ++ x ∷ []) ++ left ≡ all s handles list
  made_on list x left xs t m = ap (λ (ys : List (Act × Reply)). ys ++ left) (kept_too is_request xs x t) ∙ (append_assoc (requests xs) (x ∷ []) left ∙ m)

  -- the next act of the last one is requested
  pub requests_on : (list : List Asking) (x : Act × Reply) (left xs : List (Act × Reply)) → is_request x ≡ true → IsRequesting s handles list (x ∷ left) xs → IsRequesting s handles list left (xs ++ x ∷ [])
  requests_on list x left xs t A =
      let L = A.last (omega arith) in
      let few = L.3 in
      let n = ap length (A.made ∙ (ap (all s handles) L.2 ∙ all_more s handles L.0 L.1)) in
      let m = length-append (requests xs) (x ∷ left) in
      let q = length-append (all s handles L.0) (acts_of s handles L.1) in
      let now : IsNowBy is_request s handles list xs = subst (λ (ls : List Asking). IsNowBy is_request s handles ls xs) (sym L.2) (rest_in_time s handles is_request L.0 L.1 xs (omega (arith, n, m, q, few))) in
      record {
        made = made_on list x left xs t A.made;
        timely = timely_asked s handles is_request list xs x now A.timely;
        last = λ b. (L.0, L.1, L.2, omega (arith, few));
      }

  -- one more asking begins with its first act
  pub requests_begin : (list : List Asking) (next : Asking) (x : Act × Reply) (left xs : List (Act × Reply)) → is_request x ≡ true → acts_of s handles next ≡ x ∷ left → 1 ≤ length handles
      → ((one : Asking) (front : List Asking) → list ≡ front ++ one ∷ [] → IsDone s one xs × HasCause s next xs)
      → IsRequesting s handles list [] xs → IsRequesting s handles (list ++ next ∷ []) left (xs ++ x ∷ [])
  requests_begin list next x left xs t e some D A =
      let whole : requests xs ≡ all s handles list = sym (append-nil (requests xs)) ∙ A.made in
      let made : requests xs ++ x ∷ left ≡ all s handles (list ++ next ∷ []) = ap (λ (ys : List (Act × Reply)). ys ++ x ∷ left) whole ∙ (ap (λ (ys : List (Act × Reply)). all s handles list ++ ys) (sym e) ∙ sym (all_more s handles list next)) in
      record {
        made = made_on (list ++ next ∷ []) x left xs t made;
        timely = timely_asked s handles is_request (list ++ next ∷ []) xs x (first_in_time s handles is_request list next xs some whole D) (timely_beyond s handles is_request list (next ∷ []) [] xs A.made A.timely);
        last = λ b. (list, next, refl, (let n = ap length e in omega (arith, n)));
      }
