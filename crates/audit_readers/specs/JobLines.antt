-- What has come of a line of a job.
use Rattle.std.specs.Prelude.{◌≡◌, ℕ, List}
use Rattle.gcode_words.specs.Comments.{comment_after}
use Rattle.gcode_words.specs.declared.stripping.Comment.{Comment}
use Rattle.run_texts.specs.Sent.{kept_of, resets_of}
use Rattle.audit_rules.specs.Scanned.{cuts_by}

-- the comment that it is in, what is kept of it behind its last reset, and how many resets, and bytes that may cut jogs,
-- have come
pub record SeenLine : Type 0 where
  pub comment : Comment
  pub kept : List ℕ
  pub resets : ℕ
  pub cuts : ℕ

-- these bytes have come
pub record HasCome (line : List ℕ) (v : SeenLine) : Type 0 where
  pub comment : v.comment ≡ comment_after line
  pub kept : v.kept ≡ kept_of line
  pub resets : v.resets ≡ resets_of line
  pub cuts : v.cuts ≡ cuts_by line
