use Rattle.std.proofs.Common.{refl, sym, None, ◌≡◌, ◌++◌, ◌∷◌, [], cond, ◌||◌, nat_lt, length, take, ap, ◌∙◌, append-nil, inl, inr}
use Rattle.std.specs.List.{list_any}
use Rattle.gcode_words.specs.Stripping.{kept_by, taken_by}
use Rattle.gcode_words.proofs.Fed.{not_kept}
use Rattle.host_journal.specs.Jobs.{is_reset, is_long, sent_text}
use Rattle.stream_host.proofs.Kept.{begun_more}
use Rattle.stream_host.proofs.Texts.{sent_by, long_push, long_same}
use Rattle.stream_host.proofs.Raising.{due_more}
use Rattle.stream_host.proofs.line.SentLine.feed.Goals as goal

pub returns-in-Keep-clause-fed : goal.returns-in-Keep-clause-fed
returns-in-Keep-clause-fed c = λ bytes was.
    let fed = c.feed-stripped.ensures in
    let more : sent_text (bytes ++ c.args.byte ∷ []) ≡ sent_text bytes ++ c.in-Keep.kept ∷ [] =
    sent_by bytes c.args.byte c.feed-stripped.result (fed.kept bytes c.requires.text was.stripper) (fed.taken bytes c.requires.text was.stripper)
    ∙ ap (λ a. cond (list_any is_reset (taken_by a)) [] (sent_text bytes ++ kept_by a)) c.in-Keep.is in
    record {
      stripper = c.keep.ensures.stripper ∙ fed.comment bytes c.requires.text was.stripper;
      kept = rw more (c.keep.ensures.kept (sent_text bytes) was.kept);
      long =
          c.keep.ensures.long (sent_text bytes) was.kept ∙ ap (λ t. t || nat_lt 127 (length (sent_text bytes ++ c.in-Keep.kept ∷ []))) was.long
          ∙ ap (λ l. is_long bytes || nat_lt 127 (length l)) (sym more) ∙ sym (long_push bytes c.args.byte);
      begun = c.keep.ensures.begun ∙ begun_more bytes c.args.byte;
    }

pub returns-in-Keep-clause-due : goal.returns-in-Keep-clause-due
returns-in-Keep-clause-due c = λ bytes was.
    rw (c.keep.ensures.due, c.requires.none_due) (due_more bytes c.args.byte c.feed-stripped.result None (c.feed-stripped.ensures.taken bytes c.requires.text was.stripper) (sym (ap taken_by c.in-Keep.is)))

pub returns-then-is_reset : goal.returns-then-is_reset
returns-then-is_reset c = record {
  fed = λ bytes was.
      let fed = c.feed-stripped.ensures in
      let none : sent_text (bytes ++ c.args.byte ∷ []) ≡ [] =
      sent_by bytes c.args.byte c.feed-stripped.result (fed.kept bytes c.requires.text was.stripper) (fed.taken bytes c.requires.text was.stripper)
      ∙ ap (λ t. cond t [] (sent_text bytes ++ kept_by c.feed-stripped.result)) (sym c.is_reset.ensures ∙ c.if-is_reset.true) in
      record {
        stripper = fed.comment bytes c.requires.text was.stripper;
        kept = c.clear.ensures ∙ sym (ap (take 127) none);
        long = was.long ∙ sym (long_same bytes c.args.byte (inl none));
        begun = begun_more bytes c.args.byte;
      };
  due = λ bytes was. due_more bytes c.args.byte c.feed-stripped.result c.due_in-self.result (c.feed-stripped.ensures.taken bytes c.requires.text was.stripper) c.due_in-self.ensures;
  whole = refl;
}

pub returns-else-is_reset : goal.returns-else-is_reset
returns-else-is_reset c = record {
  fed = λ bytes was.
      let fed = c.feed-stripped.ensures in
      let same : sent_text (bytes ++ c.args.byte ∷ []) ≡ sent_text bytes =
      sent_by bytes c.args.byte c.feed-stripped.result (fed.kept bytes c.requires.text was.stripper) (fed.taken bytes c.requires.text was.stripper)
      ∙ ap (λ t. cond t [] (sent_text bytes ++ kept_by c.feed-stripped.result)) (sym c.is_reset.ensures ∙ c.if-is_reset.false)
      ∙ ap (λ xs. sent_text bytes ++ xs) (not_kept c.feed-stripped.result c.in_default.not-Keep) ∙ append-nil (sent_text bytes) in
      record {
        stripper = fed.comment bytes c.requires.text was.stripper;
        kept = rw same was.kept;
        long = was.long ∙ sym (long_same bytes c.args.byte (inr same));
        begun = begun_more bytes c.args.byte;
      };
  due = λ bytes was. due_more bytes c.args.byte c.feed-stripped.result c.due_in-self.result (c.feed-stripped.ensures.taken bytes c.requires.text was.stripper) c.due_in-self.ensures;
  whole = refl;
}
