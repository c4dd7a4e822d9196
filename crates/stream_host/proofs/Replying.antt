-- What a host keeps where it gets a reply.
use Rattle.std.proofs.Common.{◌≡◌, ℕ, ◌+◌, ◌<◌, ◌||◌, ◌&&◌, ◌^◌, Bool, true, false, cond, List, [], ◌∷◌, ◌++◌, length, map, take, drop, nat_lt, refl, sym, ap, ◌∙◌, arith, subst, append-nil, length-append}
use Rattle.std.proofs.lemmas.Bool.Decides.{nat_tests}
use Rattle.std.specs.List.{list_any}
use Rattle.std.proofs.lemmas.List.{drop-append-le, drop_all, length-take}
use Rattle.std.proofs.lemmas.List.Sums.{sum_by-append}
use Rattle.stream_host.specs.declared.host.Host.{Host}
use Rattle.host_journal.specs.declared.asking.Asking.{Asking}
use Rattle.run_rules.specs.Work.{is_limit}
use Rattle.host_journal.specs.Steps.{Journal, port_log, got_of, latest_got, begins, answered_of, has_bye, cut_of, live_of, holds_of, pause_of, resets_of, banners_of, marks_of, got_one, text_of, is_attended, resumed_at, is_shut}
use Rattle.host_journal.specs.Steps.PortStep.{got}
use Rattle.host_journal.specs.Steps.Step.{at_port}
use Rattle.stream_host.specs.Hosts.{HostFits, KeepsCounts, KeepsResets, KeepsText, line_length, lengths, IsSummed, begins_by, with_banner}
use Rattle.stream_host.specs.declared.counts.Counts.{Counts}
use Rattle.stream_host.specs.declared.resets.Resets.{Resets}
use Rattle.status_report.specs.declared.Reply.{Reply}
use Rattle.status_report.specs.Answering.{is_answer, answers_in, is_banner, is_bye, is_report}
use Rattle.host_journal.specs.Ports.{AnswersLines}
use Rattle.stream_host.proofs.Hosting.{fresh_polls}
use Rattle.stream_host.proofs.Sending as sending
use Rattle.std.proofs.lemmas.List.{drop-drop}
use Rattle.outside.specs.Causes.{SourceState, SinkState}
use Rattle.text_writer.specs.Writers.{Writing}
use Rattle.host_journal.specs.Steps.{written_of}
use Rattle.stream_host.specs.Hosts.{HostTellsOn}
use Rattle.std.proofs.lemmas.List.{drop-map}
use Rattle.std.proofs.lemmas.Grind.{flat_map-append}
use Rattle.std.proofs.lemmas.List.Folds.{list_any-append}
use Rattle.outside.proofs.Written.{more_waits}
use Rattle.status_report.specs.declared.Reply.TheVariants as replies
use Rattle.status_report.specs.Replies.{reply_text}
use Rattle.status_report.proofs.Banners.{banners_first}
use Rattle.run_rules.specs.Told.{replies_text, is_error, errors_among}
use Rattle.text_writer.specs.Writers.{with_text, with_all_asked}
use Rattle.host_journal.specs.Steps.{has_given_up}
use Rattle.stream_host.specs.Hosts.{shown}
use Rattle.stream_host.proofs.Consoles.{same_job}
use Rattle.stream_host.proofs.Epochs.{all_lines, answered_live, banner_test, begins_none}

-- ---- a reply

pub is_no_answer : (r : Reply) → (r ≡ replies.Ok → ⊥) → ((n : ℕ) → r ≡ replies.Error n → ⊥) → (is_answer r ≡ false) × (is_error r ≡ false)
is_no_answer replies.Ok o e = absurd (o refl)
is_no_answer (replies.Error n) o e = absurd (e n refl)
is_no_answer _ o e = (refl, refl)

errors_push : (rs : List Reply) (r : Reply) → errors_among (rs ++ r ∷ []) ≡ errors_among rs + cond {A = ℕ} (is_error r) 1 0
errors_push rs r = let e = sum_by-append (λ x. cond {A = ℕ} (is_error x) 1 0) rs (r ∷ []) in omega arith

one_more_if : (b : Bool) (n : ℕ) → cond b (n + 1) n ≡ n + cond {A = ℕ} b 1 0
one_more_if true n = refl
one_more_if false n = omega arith

-- an answer is counted
pub counted_answer : (c d : Counts) (r : Reply) (cuts : List (List ℕ)) (rs : List Reply) → KeepsCounts c cuts rs → is_answer r ≡ true
    → lengths d.unanswered ≡ drop 1 (lengths c.unanswered) → IsSummed d.unanswered → d.lines ≡ c.lines → d.answered ≡ c.answered + 1 → d.errors ≡ cond (is_error r) (c.errors + 1) c.errors
    → KeepsCounts d cuts (rs ++ r ∷ [])
counted_answer c d r cuts rs k is fewer summed lines answered errors =
    let more : answers_in (rs ++ r ∷ []) ≡ answers_in rs + 1 = sending.answers_push rs r ∙ ap (λ b. answers_in rs + cond {A = ℕ} b 1 0) is in
    record {
      unanswered_are =
          fewer ∙ ap (drop 1) k.unanswered_are ∙ drop-map line_length 1 (drop (answers_in rs) cuts) ∙ ap (map line_length) (drop-drop 1 (answers_in rs) cuts)
          ∙ ap (λ n. map line_length (drop n cuts)) (sym more);
      summed = summed;
      lines_are = lines ∙ k.lines_are;
      answered_is = answered ∙ ap (λ n. n + 1) k.answered_is ∙ sym more;
      errors_are = errors ∙ ap (λ n. cond (is_error r) (n + 1) n) k.errors_are ∙ one_more_if (is_error r) (errors_among rs) ∙ sym (errors_push rs r);
    }

-- what is no answer counts nothing
pub counted_other : (c : Counts) (r : Reply) (cuts : List (List ℕ)) (rs : List Reply) → KeepsCounts c cuts rs → is_answer r ≡ false → is_error r ≡ false → KeepsCounts c cuts (rs ++ r ∷ [])
counted_other c r cuts rs k is none =
    let same : answers_in (rs ++ r ∷ []) ≡ answers_in rs = (let e = sending.answers_push rs r in let g = ap (λ b. cond {A = ℕ} b 1 0) is in omega arith) in
    let errors : errors_among (rs ++ r ∷ []) ≡ errors_among rs = (let e = errors_push rs r in let g = ap (λ b. cond {A = ℕ} b 1 0) none in omega arith) in
    record {
      unanswered_are = k.unanswered_are ∙ ap (λ n. map line_length (drop n cuts)) (sym same);
      summed = k.summed;
      lines_are = k.lines_are;
      answered_is = k.answered_is ∙ sym same;
      errors_are = k.errors_are ∙ sym errors;
    }

-- the numbers fit
pub few_counted : {room : ℕ} (s : Host) (h : Journal) → HostFits room s h → (s.counts.answered + 1 < 2 ^ 32) × (s.counts.errors + 1 < 2 ^ 32)
few_counted {room} s h f =
    let n = sending.counts_are room h f.conducted in let a = n.0 in let b = n.1 in let d = n.2 in let every = all_lines room h f.conducted in
    let e = f.counts_are.answered_is in let g = f.counts_are.errors_are in (omega arith, omega arith)

text_push : (rs : List Reply) (r : Reply) → replies_text (rs ++ r ∷ []) ≡ replies_text rs ++ reply_text r
text_push rs r = flat_map-append reply_text rs (r ∷ []) ∙ ap (λ t. replies_text rs ++ t) (append-nil (reply_text r))

any_push : (p : Reply → Bool) (rs : List Reply) (r : Reply) → list_any p (rs ++ r ∷ []) ≡ (list_any p rs || p r)
any_push p rs r = list_any-append p rs (r ∷ []) ∙ ap (λ b. list_any p rs || b) (or_none (p r))
  where
    or_none : (b : Bool) → (b || false) ≡ b
    or_none true = refl
    or_none false = refl

shown_failed : (v : Writing) (r : Reply) → (shown v r).failed ≡ v.failed
shown_failed v r = by_bye (is_bye r)
  where
    by_bye : (b : Bool) → (cond b (with_all_asked (with_text v (reply_text r))) (with_text v (reply_text r))).failed ≡ v.failed
    by_bye true = refl
    by_bye false = refl

shown_waiting : (v : Writing) (r : Reply) → (shown v r).waiting ≡ cond v.failed v.waiting (v.waiting ++ reply_text r)
shown_waiting v r = by_bye (is_bye r)
  where
    by_bye : (b : Bool) → (cond b (with_all_asked (with_text v (reply_text r))) (with_text v (reply_text r))).waiting ≡ cond v.failed v.waiting (v.waiting ++ reply_text r)
    by_bye true = refl
    by_bye false = refl

shown_asked : (v : Writing) (r : Reply) (bye : Bool) → bye ≡ false → (bye || is_bye r) ≡ true → (shown v r).asked ≡ true
shown_asked v r bye none is = by_bye (is_bye r) (ap (λ b. b || is_bye r) (sym none) ∙ is)
  where
    by_bye : (b : Bool) → b ≡ true → (cond b (with_all_asked (with_text v (reply_text r))) (with_text v (reply_text r))).asked ≡ true
    by_bye true e = refl
    by_bye false e = absurd cc

got_text : {room : ℕ} (s : Host) (w : Writing) (r : Reply) (h : Journal) → HostFits room s h → s.bye ≡ false → w ≡ shown s.text r → KeepsText w (text_of (at_port (got r) ∷ h)) (written_of h) (has_given_up h) (has_bye (at_port (got r) ∷ h))
got_text {room} s w r h f going is = record {
  failed_is = ap (λ v. v.failed) is ∙ shown_failed s.text r ∙ f.text_is.failed_is;
  waits = λ e.
      let well : s.text.failed ≡ false = sym (ap (λ v. v.failed) is ∙ shown_failed s.text r) ∙ e in
      ap (λ v. v.waiting) is ∙ shown_waiting s.text r ∙ ap (λ b. cond b s.text.waiting (s.text.waiting ++ reply_text r)) well
      ∙ ap (λ t. t ++ reply_text r) (f.text_is.waits well) ∙ sym (drop-append-le (written_of h) (text_of h) (reply_text r) f.text_is.within)
      ∙ ap (drop (written_of h)) (sym (text_push (got_of h) r));
  within = (let l = ap length (text_push (got_of h) r) in let m = length-append (text_of h) (reply_text r) in let n = f.text_is.within in omega arith);
  all_asked = λ e. ap (λ v. v.asked) is ∙ shown_asked s.text r (has_bye h) (sym f.bye_is ∙ going) (sym (any_push is_bye (got_of h) r) ∙ e);
}

-- some reply is got
some_got : (rs : List Reply) (r : Reply) → true ≡ nat_lt 0 (length (rs ++ r ∷ []))
some_got rs r = let l = length-append rs (r ∷ []) in grind (arith, nat_tests, l)

-- ---- an epoch

-- an epoch begins with the reply, or not
pub record TurnsEpoch (s t : Host) (r : Reply) : Type 0 where
  pub resets : t.resets ≡ with_banner s.resets r
  pub begun : begins_by s.resets r ≡ true → (lengths t.counts.unanswered ≡ []) × IsSummed t.counts.unanswered
      × (t ≡ record s { resets = t.resets; held = false; resumed_at = 0; counts = record s.counts { unanswered = t.counts.unanswered; lines = s.counts.answered; pause_at = 0 } })
  pub none : begins_by s.resets r ≡ false → t ≡ record s { resets = t.resets }

-- what the host keeps then
pub record IsTurned (s t : Host) (r : Reply) (h : Journal) : Type 0 where
  pub same : t ≡ record s { counts = t.counts; held = t.held; resumed_at = t.resumed_at; resets = t.resets }
  pub counts : KeepsCounts t.counts (live_of (at_port (got r) ∷ h)) (got_of h ++ r ∷ [])
  pub all : t.counts.all ≡ length (cut_of h)
  pub pause : t.counts.pause_at ≡ pause_of (at_port (got r) ∷ h)
  pub held : t.held ≡ holds_of (at_port (got r) ∷ h)
  pub resumed : t.resumed_at ≡ resumed_at (at_port (got r) ∷ h)
  pub resets : KeepsResets t.resets (resets_of h) (banners_of (at_port (got r) ∷ h)) (length (marks_of h))

begins_same : {room : ℕ} (s : Host) (r : Reply) (h : Journal) → HostFits room s h → begins_by s.resets r ≡ begins r (port_log h)
begins_same {room} s r h f = ap (λ n. is_banner r && nat_lt 0 n) f.resets_are.banners_are ∙ ap (λ t. is_banner r && t) (banner_test (latest_got (port_log h)))

resets_told : {room : ℕ} (s t : Host) (r : Reply) (h : Journal) → HostFits room s h → t.resets ≡ with_banner s.resets r → KeepsResets t.resets (resets_of h) (banners_of (at_port (got r) ∷ h)) (length (marks_of h))
resets_told {room} s t r h f is = record {
  raised_is = ap (λ k. k.raised) is ∙ f.resets_are.raised_is;
  banners_are = ap (λ k. k.banners) is ∙ ap (λ n. cond (is_banner r) (n + 1) n) f.resets_are.banners_are ∙ one_more_if (is_banner r) (banners_of h) ∙ turn (banners_first r (latest_got (port_log h)));
  marked_is = ap (λ k. k.marked) is ∙ f.resets_are.marked_is;
}
  where
    turn : banners_of (at_port (got r) ∷ h) ≡ cond (is_banner r) 1 0 + banners_of h → banners_of h + cond {A = ℕ} (is_banner r) 1 0 ≡ banners_of (at_port (got r) ∷ h)
    turn e = omega arith

-- the lines without an answer are forgotten
counts_begun : {room : ℕ} (c d : Counts) (r : Reply) (h : Journal) (s : Host) → HostFits room s h → begins r (port_log h) ≡ true → KeepsCounts c (live_of h) (got_of h ++ r ∷ []) → lengths d.unanswered ≡ [] → IsSummed d.unanswered
    → d.lines ≡ c.answered → d.answered ≡ c.answered → d.errors ≡ c.errors → KeepsCounts d (take (answered_of h) (live_of h)) (got_of h ++ r ∷ [])
counts_begun {room} c d r h s f is k none summed lines answered errors =
    let few = answered_live room h f.conducted in
    let l = length-take (answered_of h) (live_of h) in
    let p = sending.answers_push (got_of h) r in let n = ap (λ t. cond {A = ℕ} t 1 0) (begins_none r (port_log h) is) in
    let a = k.answered_is in
    record {
      unanswered_are = none ∙ ap (map line_length) (sym (drop_all (answers_in (got_of h ++ r ∷ [])) (take (answered_of h) (live_of h)) (omega arith)));
      summed = summed;
      lines_are = omega arith;
      answered_is = answered ∙ k.answered_is;
      errors_are = errors ∙ k.errors_are;
    }

abbrev turn : Resets → (held : Bool) → (again : ℕ) → Counts → Host → Host
turn k held again c s = record s { resets = k; held = held; resumed_at = again; counts = c }

abbrev turn_resets : Resets → Host → Host
turn_resets k s = record s { resets = k }

pub turned_epoch : {room : ℕ} (s u t : Host) (r : Reply) (h : Journal) → HostFits room s h → u ≡ record s { counts = u.counts } → KeepsCounts u.counts (live_of h) (got_of h ++ r ∷ []) → u.counts.pause_at ≡ s.counts.pause_at → u.counts.all ≡ s.counts.all
    → TurnsEpoch u t r → IsTurned s t r h
turned_epoch {room} s u t r h f was counts pause all turns = by_begins (begins r (port_log h)) refl
  where
    resets : u.resets ≡ s.resets
    resets = ap (λ x. x.resets) was

    held : u.held ≡ s.held
    held = ap (λ x. x.held) was

    told : KeepsResets t.resets (resets_of h) (banners_of (at_port (got r) ∷ h)) (length (marks_of h))
    told = resets_told s t r h f (turns.resets ∙ ap (λ k. with_banner k r) resets)

    by_begins : (b : Bool) → begins r (port_log h) ≡ b → IsTurned s t r h
    by_begins true is =
        let e = turns.begun (ap (λ k. begins_by k r) resets ∙ begins_same s r h f ∙ is) in
        let on : t ≡ record s { resets = t.resets; held = false; resumed_at = 0; counts = record u.counts { unanswered = t.counts.unanswered; lines = u.counts.answered; pause_at = 0 } } =
        e.2 ∙ ap (turn t.resets false 0 (record u.counts { unanswered = t.counts.unanswered; lines = u.counts.answered; pause_at = 0 })) was in
        record {
          same =
              on ∙ ap (λ q. turn t.resets q 0 (record u.counts { unanswered = t.counts.unanswered; lines = u.counts.answered; pause_at = 0 }) s) (sym (ap (λ x. x.held) on))
              ∙ ap (λ q. turn t.resets t.held q (record u.counts { unanswered = t.counts.unanswered; lines = u.counts.answered; pause_at = 0 }) s) (sym (ap (λ x. x.resumed_at) on))
              ∙ ap (λ p. turn t.resets t.held t.resumed_at p s) (sym (ap (λ x. x.counts) on));
          counts = subst (λ b. KeepsCounts t.counts (cond b (take (answered_of h) (live_of h)) (live_of h)) (got_of h ++ r ∷ [])) (sym is)
              (counts_begun u.counts t.counts r h s f is counts e.0 e.1 (ap (λ x. x.counts.lines) on) (ap (λ x. x.counts.answered) on) (ap (λ x. x.counts.errors) on));
          all = ap (λ x. x.counts.all) on ∙ all ∙ f.all_are;
          pause = ap (λ x. x.counts.pause_at) on ∙ ap (λ b. cond b 0 (pause_of h)) (sym is);
          held = ap (λ x. x.held) on ∙ ap (λ b. cond b false (holds_of h)) (sym is);
          resumed = ap (λ x. x.resumed_at) on ∙ ap (λ b. cond b 0 (resumed_at h)) (sym is);
          resets = told;
        }
    by_begins false is =
        let e = turns.none (ap (λ k. begins_by k r) resets ∙ begins_same s r h f ∙ is) in
        let on : t ≡ record s { resets = t.resets; counts = u.counts } = e ∙ ap (turn_resets t.resets) was in
        record {
          same =
              on ∙ ap (λ q. turn t.resets q s.resumed_at u.counts s) (sym (ap (λ x. x.held) on))
              ∙ ap (λ q. turn t.resets t.held q u.counts s) (sym (ap (λ x. x.resumed_at) on))
              ∙ ap (λ p. turn t.resets t.held t.resumed_at p s) (sym (ap (λ x. x.counts) on));
          counts = subst (λ b. KeepsCounts t.counts (cond b (take (answered_of h) (live_of h)) (live_of h)) (got_of h ++ r ∷ [])) (sym is)
              (subst (λ c. KeepsCounts c (live_of h) (got_of h ++ r ∷ [])) (sym (ap (λ x. x.counts) on)) counts);
          all = ap (λ x. x.counts.all) on ∙ all ∙ f.all_are;
          pause = ap (λ x. x.counts.pause_at) on ∙ pause ∙ f.pause_is ∙ ap (λ b. cond b 0 (pause_of h)) (sym is);
          held = ap (λ x. x.held) on ∙ f.held_is ∙ ap (λ b. cond b false (holds_of h)) (sym is);
          resumed = ap (λ x. x.resumed_at) on ∙ f.resumed_is ∙ ap (λ b. cond b 0 (resumed_at h)) (sym is);
          resets = told;
        }

pub got_reply : {room : ℕ} (s t : Host) (w : Writing) (a : Asking) (bye alarm : Bool) (r : Reply) (h : Journal) → HostFits room s h → s.bye ≡ false → AnswersLines (got r ∷ port_log h) → IsTurned s t r h → w ≡ shown s.text r → bye ≡ (s.bye || is_bye r) → alarm ≡ (s.alarm || is_limit r)
    → a ≡ cond (is_report r) (got_one s.asking) s.asking → HostFits room (record s { counts = t.counts; held = t.held; resumed_at = t.resumed_at; resets = t.resets; text = w; asking = a; polls = 0; bye = bye; greeted = true; alarm = alarm }) (at_port (got r) ∷ h)
got_reply {room} s t w a bye alarm r h f going lines turned text is alarms asks = record {
  sized = f.sized;
  room_is = f.room_is;
  attended_is = f.attended_is;
  conducted = (record { poll = record { going = sym f.bye_is ∙ going; rested = f.polls_are.rested }; lines = lines }, f.conducted);
  job_is = f.job_is;
  line_is = f.line_is;
  due_is = f.due_is;
  asking_is = asks ∙ ap (λ (x : Asking). cond (is_report r) (got_one x) x) f.asking_is;
  counts_are = turned.counts;
  all_are = turned.all;
  resets_are = turned.resets;
  polls_are = record { polls_are = refl; rested = fresh_polls (is_attended h) (is_shut h) };
  held_is = turned.held;
  resumed_is = turned.resumed;
  greeted_is = some_got (got_of h) r;
  alarm_is = alarms ∙ ap (λ b. b || is_limit r) f.alarm_is ∙ sym (any_push is_limit (got_of h) r);
  pause_is = turned.pause;
  text_is = got_text s w r h f going text;
  shut_is = f.shut_is;
  bye_is = is ∙ ap (λ b. b || is_bye r) f.bye_is ∙ sym (any_push is_bye (got_of h) r);
  over = f.over;
}

pub tells_reply : (s t : Host) (r : Reply) (h : Journal) (job : SourceState) (console : SinkState) → t.text ≡ shown s.text r → HostTellsOn s t h (at_port (got r) ∷ h) job job console console
tells_reply s t r h job console is = record {
  job = λ before j. same_job h (at_port (got r) ∷ h) before job refl refl j;
  console = λ before j.
      let more = more_waits before console s.text.failed s.text.waiting (text_of h) (reply_text r) j in
      rw (is, shown_failed s.text r, shown_waiting s.text r, text_push (got_of h) r) more;
}
