-- Replies in words.
use Rattle.std.specs.Prelude.{ℕ, List, ◌++◌, codes, decimal}
use Rattle.interfaces.specs.Messages.{fault_words}
use Rattle.entries.specs.Messages.{message}
use Rattle.loading.specs.declared.reply.Reply.{Reply}
use Rattle.loading.specs.declared.reply.Reply.TheVariants.{Bad, Written, Refused, Differs}

abbrev pub reply_words : Reply → List ℕ
reply_words (Bad bad) = codes "bad line: " ++ message bad
reply_words (Written k) = codes "record " ++ (decimal k ++ codes " written and read back")
reply_words (Refused k fault) = codes "record " ++ (decimal k ++ (codes " refused: " ++ fault_words fault))
reply_words (Differs k) = codes "record " ++ (decimal k ++ codes " differs from what was written")
