use Rattle.std.proofs.Common.{◌≡◌, ◌++◌, ◌∷◌, ◌+◌, ◌<◌, ℕ, List, [], Some, None, length, drop, codes, refl, sym, ap, ◌∙◌, arith}
use Rattle.std.proofs.lemmas.List.{drop_all}
use Rattle.act_text.specs.Acts.{act_words}
use Rattle.act_text.specs.ReadActs.{act_of}
use Rattle.act_text.specs.ReadReplies.{reply_of}
use Rattle.act_text.specs.Texts.{before_equals, after_equals, text_with}
use Rattle.line_text.specs.Lists.{texts}
use Rattle.act_text.proofs.TextsAgain.{parts-text, both-none}
use Rattle.act_text.proofs.text.text_of_words.Goals as goal

pub returns-then-place-words-clause-is : goal.returns-then-place-words-clause-is
returns-then-place-words-clause-is c =
    let words = texts c.args.words.now in
    let none : after_equals words ≡ [] = sym c.equals_in-place.ensures.after ∙ ap texts (drop_all (c.equals_in-place.result + 1) c.args.words.now (omega arith)) in
    sym (both-none (act_of (before_equals words)) text_with) ∙ parts-text words (act_of (before_equals words)) None refl (sym (ap reply_of none))

pub returns-in_default-clause-is : goal.returns-in_default-clause-is
returns-in_default-clause-is c =
    let words = texts c.args.words.now in
    parts-text words None (reply_of (after_equals words)) (c.in_default.ensures.is ∙ ap act_of (ap texts c.split_at.ensures.front ∙ c.equals_in-place.ensures.before)) refl

pub returns-in_default-reply_in-clause-is : goal.returns-in_default-reply_in-clause-is
returns-in_default-reply_in-clause-is c =
    parts-text (texts c.args.words.now) (Some c.in-Some.act) None
    (c.in-Some.ensures.is ∙ ap act_of (ap texts c.split_at.ensures.front ∙ c.equals_in-place.ensures.before))
    (c.in_default-reply_in.ensures.is ∙ ap reply_of (ap texts c.split_at-2.ensures.back ∙ c.equals_in-place.ensures.after))

pub returns-clause-some : goal.returns-clause-some
returns-clause-some c =
    let place = c.equals_in-place.result in
    let within : place < length c.args.words.now = omega arith in
    c.equals_in-place.ensures.equals within
    ∙ ap (λ (front : List (List ℕ)). front ++ (codes "=" ∷ texts (drop (place + 1) c.args.words.now))) (sym (ap texts c.split_at.ensures.front) ∙ c.in-Some.ensures.some)
    ∙ ap (λ (rest : List (List ℕ)). act_words c.in-Some.act ++ (codes "=" ∷ rest)) (sym (ap texts c.split_at-2.ensures.back) ∙ c.in-Some-reply_in.ensures.some)

pub returns-clause-is : goal.returns-clause-is
returns-clause-is c =
    parts-text (texts c.args.words.now) (Some c.in-Some.act) (Some c.in-Some-reply_in.reply)
    (c.in-Some.ensures.is ∙ ap act_of (ap texts c.split_at.ensures.front ∙ c.equals_in-place.ensures.before))
    (c.in-Some-reply_in.ensures.is ∙ ap reply_of (ap texts c.split_at-2.ensures.back ∙ c.equals_in-place.ensures.after))
