-- What a pulse has put so far of what was published of epochs, of which the last is open.
use Rattle.std.proofs.Common.{◌≡◌, inl, inr, ℕ, ◌+◌, ◌≤◌, List, [], ◌∷◌, ◌++◌, length, reverse, sym, refl, ap, ◌∙◌, subst, append-nil, append_assoc, arith}
use Rattle.std.proofs.lemmas.Grind.{flat_map-append}
use Rattle.std.proofs.lemmas.List.{length-append}
use Rattle.flight.specs.Halts.{Stretch}
use Rattle.planner_runs.specs.Runs.{all_records}
use Rattle.run_texts.specs.Fronts.{BeginsWith}
use Rattle.step_line.specs.Asking.{ticks_among}
use Rattle.step_line.specs.Finishing.{ticks_together}
use Rattle.step_line.specs.Logs.{NewestFirst}
use Rattle.step_line.specs.Pieces.{records_of}
use Rattle.step_line.specs.declared.Mark.TheVariants as marks
use Rattle.step_line.specs.declared.Piece.{Piece}
use Rattle.step_line.specs.declared.Piece.TheVariants as pieces
use Rattle.step_line.specs.declared.Record.{Record}
use Rattle.step_line.specs.declared.Record.TheVariants as kinds
use Rattle.epoch_records.specs.Epochs.{Epoch, ArePut}
use Rattle.epoch_records.specs.Publishing.{published_in, halts_in, but_none, AreSameHalts, AreOver}
use Rattle.epoch_records.specs.SoFar.{IsPutSoFar, EndByMarks, Phase, ArePublishedSoFar, HaltsUnseen, done_in, nothing_done}
use Rattle.epoch_records.specs.SoFar.Phase.{is_going, is_stopping, is_halted}
use Rattle.epoch_records.specs.Stretches.{pieces_of_all, EndStretches, ArePutOver, ArePutSince, AreEpochsOf}
use Rattle.epoch_records.proofs.Epochs.{stretches_put}
use Rattle.epoch_records.proofs.Halts.{halts_more, halts_last, newest_halt, none_reversed}
use Rattle.epoch_records.proofs.Open.{all_of, marked_by, going_so_far, halted_so_far}
use Rattle.epoch_records.proofs.Publishing.{epochs_of_stretches, some_epochs_of_stretches}

-- ---- what is published of closed epochs and others

over_on : (es : List Epoch) (e : Epoch) (more : List Epoch) → EndByMarks es → AreOver (e ∷ more) → AreOver (es ++ e ∷ more)
over_on [] e more marked over = over
over_on (x ∷ []) e more marked over = (marked.0, marked.1, over)
over_on (x ∷ (y ∷ es)) e more marked over = (marked.0, marked.1, over_on (y ∷ es) e more marked.2 over)

pub published_both : (es fs : List Epoch) → published_in (es ++ fs) ≡ published_in es ++ published_in fs
published_both [] fs = refl
published_both (e ∷ es) fs = ap (λ (ps : List Piece). e.pieces ++ e.closing ∷ ps) (published_both es fs) ∙ sym (append_assoc e.pieces (e.closing ∷ published_in es) (published_in fs))

-- the halt of the open epoch is that of its pieces and ticks, whatever ends it
same_halts : (p d : ℕ) (es : List Epoch) (e : Epoch) (number : ℕ) → halts_in p d (es ++ e ∷ (nothing_done ∷ [])) ≡ halts_in p d (es ++ marked_by number e ∷ (nothing_done ∷ []))
same_halts p d [] e number = refl
same_halts p d (x ∷ es) e number =
    halts_more p d x e es (nothing_done ∷ []) ∙ ap (λ (hs : List (ℕ × ℕ)). (p + length x.pieces, d + x.done) ∷ hs) (same_halts (p + length x.pieces + 1) (d + x.done + 1) es e number)
    ∙ sym (halts_more p d x (marked_by number e) es (nothing_done ∷ []))

-- ---- a pulse

-- stretches are these epochs, where halts are stored that are seen
by_halts : (es : List Epoch) (halts stored : NewestFirst (ℕ × ℕ)) (ss : List Stretch) (last : List Piece) → AreOver es → pieces_of_all ss ++ last ≡ published_in es → EndStretches stored ss → halts ≡ reverse (halts_in 0 0 es) → AreSameHalts halts stored
    → AreEpochsOf [] es ss last
by_halts es halts stored ss last over pieces ends are (inl all) = epochs_of_stretches es stored ss last over pieces ends (all ∙ are)
by_halts es halts stored ss last over pieces ends are (inr some) = some_epochs_of_stretches es stored ss last over pieces ends (some ∙ ap but_none are ∙ none_reversed (halts_in 0 0 es))

-- What is put with more pieces behind those that are got: all that was put, and what is left.
abbrev left_of : (ss : List Stretch) (last more : List Piece) (put : List Record) → ArePutSince ss last put → List Record
left_of ss last more put since = since.first.rest ++ all_records more

with_more : (ss : List Stretch) (last more : List Piece) (put : List Record) → (since : ArePutSince ss last put) → ArePutOver ss (last ++ more) (put ++ left_of ss last more put since)
with_more ss last more put since = record {
  halted = since.halted;
  split = ap (λ (rs : List Record). rs ++ (since.first.rest ++ all_records more)) since.split ∙ append_assoc since.halted since.mine (since.first.rest ++ all_records more)
      ∙ ap (λ (rs : List Record). since.halted ++ rs) (sym (append_assoc since.mine since.first.rest (all_records more)) ∙ ap (λ (rs : List Record). rs ++ all_records more) (sym since.first.is) ∙ sym (flat_map-append records_of last more));
  are = since.are;
}

module _ (number : ℕ) (closed : List Epoch) (now : Epoch) (published : List Piece) (halts stored : NewestFirst (ℕ × ℕ)) (ss : List Stretch) (last : List Piece) (put : List Record)
    (marked : EndByMarks closed) (b : BeginsWith published (pieces_of_all ss ++ last)) (same : AreSameHalts halts stored) (ends : EndStretches stored ss) (since : ArePutSince ss last put) where
  -- what is put of epochs as they will be
  put_of : (es : List Epoch) (more : List Piece) → AreOver es → published_in es ≡ published ++ more → halts ≡ reverse (halts_in 0 0 es) → ArePut es (put ++ left_of ss last (b.rest ++ more) put since)
  put_of es more over whole are =
      let pieces : pieces_of_all ss ++ (last ++ (b.rest ++ more)) ≡ published_in es =
      sym (whole ∙ ap (λ (ps : List Piece). ps ++ more) b.is ∙ append_assoc (pieces_of_all ss ++ last) b.rest more ∙ append_assoc (pieces_of_all ss) last (b.rest ++ more)) in
      stretches_put es ss (last ++ (b.rest ++ more)) (put ++ left_of ss last (b.rest ++ more) put since) (by_halts es halts stored ss (last ++ (b.rest ++ more)) over pieces ends are same)
      (with_more ss last (b.rest ++ more) put since)

  -- while the open epoch goes on
  going : (more behind : List Piece) → published ≡ published_in closed ++ (now.pieces ++ more) → more ++ behind ≡ pieces.End ∷ [] → halts ≡ reverse (halts_in 0 0 (closed ++ now ∷ [])) → length (ticks_among put) ≡ done_in closed + now.done
      → IsPutSoFar number (closed ++ now ∷ []) put
  going more behind are ended halts_are count =
      let es : List Epoch = closed ++ all_of now ∷ [] in
      let whole : published_in es ≡ published ++ behind =
      published_both closed (all_of now ∷ []) ∙ ap (λ (ps : List Piece). published_in closed ++ (now.pieces ++ ps)) (sym ended)
      ∙ ap (λ (ps : List Piece). published_in closed ++ ps) (sym (append_assoc now.pieces more behind)) ∙ sym (append_assoc (published_in closed) (now.pieces ++ more) behind) ∙ ap (λ (ps : List Piece). ps ++ behind) (sym are) in
      let all = put_of es behind (over_on closed (all_of now) [] marked (refl, refl)) whole (halts_are ∙ ap reverse (halts_last 0 0 closed now (all_of now))) in
      going_so_far number closed now (put ++ left_of ss last (b.rest ++ behind) put since) put marked all (record { rest = left_of ss last (b.rest ++ behind) put since; is = refl }) count

  -- once it is halted
  halted : (more behind : List Piece) → published ≡ published_in closed ++ (now.pieces ++ more) → more ++ behind ≡ pieces.Mark (marks.Reset number) ∷ [] → now.done ≤ ticks_together now.pieces → halts ≡ reverse (halts_in 0 0 (closed ++ now ∷ (nothing_done ∷ [])))
      → done_in closed + now.done ≤ length (ticks_among put) → IsPutSoFar number (closed ++ now ∷ []) put
  halted more behind are ended few halts_are enough =
      let end : List Piece = pieces.End ∷ [] in
      let es : List Epoch = closed ++ marked_by number now ∷ (nothing_done ∷ []) in
      let whole : published_in es ≡ published ++ (behind ++ end) =
      published_both closed (marked_by number now ∷ (nothing_done ∷ [])) ∙ ap (λ (ps : List Piece). published_in closed ++ (now.pieces ++ (ps ++ end))) (sym ended)
      ∙ ap (λ (ps : List Piece). published_in closed ++ (now.pieces ++ ps)) (append_assoc more behind end)
      ∙ ap (λ (ps : List Piece). published_in closed ++ ps) (sym (append_assoc now.pieces more (behind ++ end))) ∙ sym (append_assoc (published_in closed) (now.pieces ++ more) (behind ++ end)) ∙ ap (λ (ps : List Piece). ps ++ (behind ++ end)) (sym are) in
      let all = put_of es (behind ++ end) (over_on closed (marked_by number now) (nothing_done ∷ []) marked (tt, few, (refl, refl))) whole (halts_are ∙ ap reverse (same_halts 0 0 closed now number)) in
      let left : List Record = since.first.rest ++ all_records (b.rest ++ behind) in
      let split : put ++ left_of ss last (b.rest ++ (behind ++ end)) put since ≡ (put ++ left) ++ kinds.End ∷ [] =
      ap (λ (ps : List Piece). put ++ (since.first.rest ++ all_records ps)) (sym (append_assoc b.rest behind end))
      ∙ ap (λ (rs : List Record). put ++ (since.first.rest ++ rs)) (flat_map-append records_of (b.rest ++ behind) end)
      ∙ ap (λ (rs : List Record). put ++ rs) (sym (append_assoc since.first.rest (all_records (b.rest ++ behind)) (kinds.End ∷ []))) ∙ sym (append_assoc put left (kinds.End ∷ [])) in
      halted_so_far closed now number (put ++ left) put marked (subst (ArePut es) split all) (record { rest = left; is = refl }) enough

  -- as it is published
  by_phase : (phase : Phase) (ticks : ℕ) → ArePublishedSoFar number phase closed now ticks published halts → ticks ≡ length (ticks_among put) → IsPutSoFar number (closed ++ now ∷ []) put
  by_phase is_going ticks are count = elim are.follows [
    | inl none ↦ going are.more (pieces.End ∷ []) are.are (ap (λ (ps : List Piece). ps ++ pieces.End ∷ []) none) are.halts_are (sym count ∙ are.ticks_are)
    | inr ended ↦ going are.more [] are.are (append-nil are.more ∙ ended) are.halts_are (sym count ∙ are.ticks_are)
  ]
  by_phase is_stopping ticks are count = going are.more (pieces.End ∷ []) are.are (ap (λ (ps : List Piece). ps ++ pieces.End ∷ []) are.follows) are.halts_are (sym count ∙ are.ticks_are)
  by_phase is_halted ticks are count =
      let enough : done_in closed + now.done ≤ length (ticks_among put) = (let low = are.ticks_are in omega (arith, low, count)) in
      elim are.follows [
        | inl none ↦ let mark : List Piece = pieces.Mark (marks.Reset number) ∷ [] in halted are.more mark are.are (ap (λ (ps : List Piece). ps ++ mark) none) are.few are.halts_are enough
        | inr ended ↦ halted are.more [] are.are (append-nil are.more ∙ ended) are.few are.halts_are enough
      ]

pub put_so_far : (number : ℕ) (phase : Phase) (closed : List Epoch) (now : Epoch) (ticks : ℕ) (published : List Piece) (halts stored : NewestFirst (ℕ × ℕ)) (ss : List Stretch) (last : List Piece) (put : List Record)
    → ArePublishedSoFar number phase closed now ticks published halts → BeginsWith published (pieces_of_all ss ++ last) → AreSameHalts halts stored → EndStretches stored ss → ArePutSince ss last put → ticks ≡ length (ticks_among put) → IsPutSoFar number (closed ++ now ∷ []) put
put_so_far number phase closed now ticks published halts stored ss last put are b same ends since count = by_phase number closed now published halts stored ss last put are.marked b same ends since phase ticks are count

-- ---- a halt that was not seen

-- it was published as if it were
as_seen : (number : ℕ) (phase : Phase) (closed : List Epoch) (now : Epoch) (ticks : ℕ) (published : List Piece) (halts : NewestFirst (ℕ × ℕ)) → phase ≡ is_stopping → ArePublishedSoFar number phase closed now ticks published halts
    → ArePublishedSoFar number is_halted closed now ticks published ((length published, ticks) ∷ halts)
as_seen number is_going closed now ticks published halts stops are = absurd cc
as_seen number is_halted closed now ticks published halts stops are = absurd cc
as_seen number is_stopping closed now ticks published halts stops are =
    let none = are.follows in
    let count = are.ticks_are in
    let long : length published ≡ length (published_in closed) + length now.pieces =
    (let all = ap length are.are in let a = length-append (published_in closed) (now.pieces ++ are.more) in let c = length-append now.pieces are.more in let n = ap length none in omega (arith, all, a, c, n)) in
    record { marked = are.marked; few = are.few; more = are.more; are = are.are; follows = inl none; halts_are = newest_halt closed now (length published) ticks halts long count are.halts_are; ticks_are = omega (arith, count) }

pub put_unseen : (number : ℕ) (phase : Phase) (closed : List Epoch) (now : Epoch) (ticks : ℕ) (published : List Piece) (halts stored : NewestFirst (ℕ × ℕ)) (ss : List Stretch) (last : List Piece) (put : List Record)
    → ArePublishedSoFar number phase closed now ticks published halts → HaltsUnseen phase ticks published (pieces_of_all ss ++ last) halts stored → EndStretches stored ss → ArePutSince ss last put → ticks ≡ length (ticks_among put) → IsPutSoFar number (closed ++ now ∷ []) put
put_unseen number phase closed now ticks published halts stored ss last put are unseen ends since count =
    put_so_far number is_halted closed now ticks published ((length published, ticks) ∷ halts) stored ss last put (as_seen number phase closed now ticks published halts unseen.stops are)
    (record { rest = []; is = sym unseen.all ∙ sym (append-nil (pieces_of_all ss ++ last)) }) unseen.halts_are ends since count
