-- The text of an act with its reply.
use Rattle.std.specs.Prelude.{ℕ, List, [], ◌∷◌, ◌++◌, Option, if◌then◌else◌, codes}
use Rattle.std.specs.Str.{bytes_eq}
use Rattle.act_text.specs.Acts.{act_words, IsAct}
use Rattle.act_text.specs.Reading.{both}
use Rattle.act_text.specs.ReadActs.{act_of}
use Rattle.act_text.specs.ReadReplies.{reply_of}
use Rattle.act_text.specs.Replies.{reply_words, IsReply}
use Rattle.line_text.specs.Lists.{spaced}
use Rattle.act_text.specs.declared.act.TextAct.{TextAct}
use Rattle.act_text.specs.declared.reply.TextReply.{TextReply}
use Rattle.act_text.specs.declared.text.ActText.{ActText}

-- `ACT = REPLY`
abbrev pub text_words : ActText → List (List ℕ)
text_words text = act_words text.act ++ (codes "=" ∷ reply_words text.reply)

unfoldable pub act_text : ActText → List ℕ
act_text text = spaced (text_words text)

-- the names are names, and the numbers are within their limits
pub record IsActText (text : ActText) : Type 0 where
  pub act : IsAct text.act
  pub reply : IsReply text.reply

abbrev pub before_equals : List (List ℕ) → List (List ℕ)
before_equals [] = []
before_equals (word ∷ words) = if bytes_eq word (codes "=") then [] else word ∷ before_equals words

abbrev pub after_equals : List (List ℕ) → List (List ℕ)
after_equals [] = []
after_equals (word ∷ words) = if bytes_eq word (codes "=") then words else after_equals words

abbrev pub text_with : TextAct → TextReply → ActText
text_with act reply = record { act = act; reply = reply }

-- the act and reply of a list of words
abbrev pub text_of : List (List ℕ) → Option ActText
text_of words = both (act_of (before_equals words)) (reply_of (after_equals words)) text_with
