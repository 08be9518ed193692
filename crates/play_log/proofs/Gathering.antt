-- Pieces that are gathered one behind the other.
use Rattle.std.proofs.Common.{◌≡◌, ℕ, ◌+◌, ◌≤◌, List, [], ◌++◌, length, take, Option, Result, Ok, Err, OnOk, IsOk, IsErr, sym, ap, ◌∙◌, subst, arith, append_assoc, append-nil, length-append}
use Rattle.std.proofs.lemmas.List.{take-append-le, take_all}
use Rattle.std.proofs.Math.Seq.{take-append-add}
use Rattle.std.specs.Io.KnownBytes.{append_known}
use Rattle.outside_io.proofs.Known.{append_known-nil, append_known-twice}
use Rattle.outside_io.specs.Moves.{AppendsFront}
use Rattle.play_log.specs.Gathering.{IsGathered, Puts}

take_front : (xs ys : List ℕ) → take (length xs) (xs ++ ys) ≡ xs
take_front xs ys = take-append-le (length xs) xs ys (omega arith) ∙ take_all (length xs) xs (omega arith)

-- a front of a text is one of a longer text
pub front_more : (first new : Option (List ℕ)) (text more : List ℕ) → AppendsFront first new text → AppendsFront first new (text ++ more)
front_more first new text more (k, small, is) = (
  k,
  (let l = length-append text more in omega (arith, small)),
  is ∙ ap (append_known first) (sym (take-append-le k text more small)),
)

-- what the sink took is a front of the text
pub gathered_front : (first told : Option (List ℕ)) (held text : List ℕ) → IsGathered first told held text → AppendsFront first told text
gathered_front first told held text G = (
  length G.taken,
  (let l = length-append G.taken held in let e = ap length G.all in omega (arith, l, e)),
  G.given ∙ ap (append_known first) (sym (take_front G.taken held) ∙ ap (take (length G.taken)) G.all),
)

-- it took a front of what is behind that, too
pub gathered_then : (first told new : Option (List ℕ)) (held text piece : List ℕ) → IsGathered first told held text → AppendsFront told new (held ++ piece) → AppendsFront first new (text ++ piece)
gathered_then first told new held text piece G (k, small, is) =
    let whole : text ++ piece ≡ G.taken ++ (held ++ piece) = ap (λ (t : List ℕ). t ++ piece) (sym G.all) ∙ append_assoc G.taken held piece in
    let front : take (length G.taken + k) (text ++ piece) ≡ G.taken ++ take k (held ++ piece) = ap (take (length G.taken + k)) whole ∙ take-append-add G.taken (held ++ piece) k in
    let fits : length G.taken + k ≤ length (text ++ piece) = let l = length-append G.taken (held ++ piece) in let e = ap length whole in omega (arith, small, l, e) in (
      length G.taken + k,
      fits,
      is ∙ ap (λ (t : Option (List ℕ)). append_known t (take k (held ++ piece))) G.given ∙ append_known-twice first G.taken (take k (held ++ piece)) ∙ ap (append_known first) (sym front),
    )

-- one piece, and then another
pub puts_then : {T E U F : Type 0} (a b c : Option (List ℕ)) (held mid now p q whole : List ℕ) (first : Result T E) (result : Result U F) → IsOk first → Puts a b held mid p first → Puts b c mid now q result → p ++ q ≡ whole → Puts a c held now whole result
puts_then a b c held mid now p q whole (Ok done) result ok P Q is = record {
  more = λ f text G. subst (λ (t : List ℕ). OnOk result (IsGathered f c now t)) (append_assoc text p q ∙ ap (λ (t : List ℕ). text ++ t) is) (Q.more f (text ++ p) (P.more f text G));
  front = λ f text G. subst (λ (t : List ℕ). AppendsFront f c t) (append_assoc text p q ∙ ap (λ (t : List ℕ). text ++ t) is) (Q.front f (text ++ p) (P.more f text G));
}
puts_then a b c held mid now p q whole (Err error) result ok P Q is = absurd cc

-- what was put without a fault
pub puts_ok : {T E U F : Type 0} (a b : Option (List ℕ)) (held now p : List ℕ) (first : Result T E) (done : U) → IsOk first → Puts a b held now p first → Puts {T = U} {E = F} a b held now p (Ok done)
puts_ok a b held now p (Ok it) done ok P = record { more = P.more; front = P.front }
puts_ok a b held now p (Err error) done ok P = absurd cc

-- the first piece failed
pub puts_failed : {T E U F : Type 0} (a b : Option (List ℕ)) (held now p q whole : List ℕ) (first : Result T E) (failed : Result U F) → IsErr failed → Puts a b held now p first → p ++ q ≡ whole → Puts a b held now whole failed
puts_failed a b held now p q whole first (Ok done) bad P is = absurd cc
puts_failed a b held now p q whole first (Err error) bad P is = record {
  more = λ f text G. tt;
  front = λ f text G. subst (λ (t : List ℕ). AppendsFront f b t) (append_assoc text p q ∙ ap (λ (t : List ℕ). text ++ t) is) (front_more f b (text ++ p) q (P.front f text G));
}

-- the piece itself failed
pub puts_err : {T E U F : Type 0} (a b : Option (List ℕ)) (held now p : List ℕ) (first : Result T E) (failed : Result U F) → IsErr failed → Puts a b held now p first → Puts a b held now p failed
puts_err a b held now p first failed bad P = puts_failed a b held now p [] p first failed bad P (append-nil p)

-- nothing is put
pub puts_none : {T E : Type 0} (a : Option (List ℕ)) (held : List ℕ) (done : T) → Puts {T = T} {E = E} a a held held [] (Ok done)
puts_none a held done = record {
  more = λ f text G. subst (IsGathered f a held) (sym (append-nil text)) G;
  front = λ f text G. subst (AppendsFront f a) (sym (append-nil text)) (gathered_front f a held text G);
}

-- the piece is held
pub puts_held : {T E : Type 0} (a : Option (List ℕ)) (held now piece : List ℕ) (done : T) → now ≡ held ++ piece → Puts {T = T} {E = E} a a held now piece (Ok done)
puts_held {T} {E} a held now piece done is =
    let more : (f : Option (List ℕ)) (text : List ℕ) → IsGathered f a held text → IsGathered f a now (text ++ piece) = λ f text G. record {
      taken = G.taken;
      given = G.given;
      all = ap (λ (t : List ℕ). G.taken ++ t) is ∙ (sym (append_assoc G.taken held piece) ∙ ap (λ (t : List ℕ). t ++ piece) G.all);
    } in record {
      more = more;
      front = λ f text G. gathered_front f a now (text ++ piece) (more f text G);
    }

-- all that was held was written
pub puts_flushed : {T E : Type 0} (a b : Option (List ℕ)) (held now : List ℕ) (done : T) → b ≡ append_known a held → now ≡ [] → Puts {T = T} {E = E} a b held now [] (Ok done)
puts_flushed {T} {E} a b held now done is none =
    let more : (f : Option (List ℕ)) (text : List ℕ) → IsGathered f a held text → IsGathered f b now (text ++ []) = λ f text G. record {
      taken = text;
      given = is ∙ (ap (λ (t : Option (List ℕ)). append_known t held) G.given ∙ (append_known-twice f G.taken held ∙ ap (append_known f) G.all));
      all = ap (λ (t : List ℕ). text ++ t) none;
    } in record {
      more = more;
      front = λ f text G. gathered_front f b now (text ++ []) (more f text G);
    }

-- the sink got the piece, or a front of it, where nothing was held
pub puts_written : {T E : Type 0} (a b : Option (List ℕ)) (held piece : List ℕ) (result : Result T E) → held ≡ [] → OnOk result (b ≡ append_known a piece) → AppendsFront a b piece → Puts a b held held piece result
puts_written a b held piece (Ok done) none is front = record {
  more = λ f text G. record {
    taken = text ++ piece;
    given =
        let all : G.taken ≡ text = sym (append-nil G.taken) ∙ (ap (λ (t : List ℕ). G.taken ++ t) (sym none) ∙ G.all) in
        is ∙ (ap (λ (t : Option (List ℕ)). append_known t piece) (G.given ∙ ap (append_known f) all) ∙ append_known-twice f text piece);
    all = ap (λ (t : List ℕ). (text ++ piece) ++ t) none ∙ append-nil (text ++ piece);
  };
  front = λ f text G. gathered_then f a b held text piece G (subst (λ (t : List ℕ). AppendsFront a b (t ++ piece)) (sym none) front);
}
puts_written a b held piece (Err error) none is front = record {
  more = λ f text G. tt;
  front = λ f text G. gathered_then f a b held text piece G (subst (λ (t : List ℕ). AppendsFront a b (t ++ piece)) (sym none) front);
}

-- what was held was written in part
pub puts_broken : {T E : Type 0} (a b : Option (List ℕ)) (held piece : List ℕ) (result : Result T E) → IsErr result → AppendsFront a b held → Puts a b held held piece result
puts_broken a b held piece (Ok done) bad front = absurd cc
puts_broken a b held piece (Err error) bad front = record {
  more = λ f text G. tt;
  front = λ f text G. gathered_then f a b held text piece G (front_more a b held piece front);
}

-- ---- the whole text

pub gathered_none : (first : Option (List ℕ)) (held : List ℕ) → held ≡ [] → IsGathered first first held []
gathered_none first held none = record { taken = []; given = sym (append_known-nil first); all = none }

pub all_given : (first told : Option (List ℕ)) (held text : List ℕ) → held ≡ [] → IsGathered first told held text → told ≡ append_known first text
all_given first told held text none G = G.given ∙ ap (append_known first) (sym (append-nil G.taken) ∙ (ap (λ (t : List ℕ). G.taken ++ t) (sym none) ∙ G.all))

-- it was put behind nothing, and what was held was written
pub text_given : {T E U F : Type 0} (first told : Option (List ℕ)) (held now text : List ℕ) (put : Result T E) (result : Result U F) → IsOk put → held ≡ [] → (mid : Option (List ℕ)) (between : List ℕ) → Puts first mid held between text put → Puts mid told between now [] result → OnOk result (now ≡ []) → OnOk result (told ≡ append_known first text)
text_given first told held now text (Ok done) (Ok last) ok none mid between P Q empty = all_given first told now text empty (subst (IsGathered first told now) (append-nil text) (Q.more first text (P.more first [] (gathered_none first held none))))
text_given first told held now text (Ok done) (Err error) ok none mid between P Q empty = tt
text_given first told held now text (Err error) result ok none mid between P Q empty = absurd cc

pub text_front : {T E U F : Type 0} (first told : Option (List ℕ)) (held now text : List ℕ) (put : Result T E) (result : Result U F) → IsOk put → held ≡ [] → (mid : Option (List ℕ)) (between : List ℕ) → Puts first mid held between text put → Puts mid told between now [] result → AppendsFront first told text
text_front first told held now text (Ok done) result ok none mid between P Q = subst (AppendsFront first told) (append-nil text) (Q.front first text (P.more first [] (gathered_none first held none)))
text_front first told held now text (Err error) result ok none mid between P Q = absurd cc
