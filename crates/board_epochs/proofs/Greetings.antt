-- What is answered in an epoch begins with what greets there; so all that is answered begins with the banner.
use Rattle.std.proofs.Common.{◌≡◌, inl, inr, ℕ, Bool, true, false, List, [], ◌∷◌, ◌++◌, refl, sym, ap, ◌∙◌, append_assoc}
use Rattle.run_rules.specs.declared.State.{State}
use Rattle.run_rules.specs.Work.{tells}
use Rattle.run_texts.specs.Fronts.{BeginsWith}
use Rattle.status_report.specs.declared.Reply.{Reply}
use Rattle.status_report.specs.declared.Reply.TheVariants.{Banner}
use Rattle.step_line.specs.Logs.{NewestFirst}
use Rattle.board_rules.specs.Conduct.{Conducted}
use Rattle.board_journal.specs.Openings.{Opening, up_to_banner}
use Rattle.board_journal.specs.Ports.{BoardLog, known_in, answered_in}
use Rattle.board_journal.specs.Steps.{Journal, port_log, answered_of, left_of}
use Rattle.board_rules.specs.Turns.{is_greeted}
use Rattle.board_rules.proofs.Greeted.{greeted_where, greets_first, greets_still}
use Rattle.board_epochs.specs.Epochs.{Closed, AreClosed, Epochs, AreEpochs, closed_log, log_behind, log_of, last_line, opening_behind}
use Rattle.board_epochs.specs.Epochs.Epochs.{goes, resets}
use Rattle.board_epochs.specs.Greetings.{IsGreeted}
use Rattle.board_epochs.specs.Resets.{MayReset}
use Rattle.board_epochs.specs.Work.{Work, Works}
use Rattle.board_epochs.proofs.Bounding.{no_replies}
use Rattle.board_epochs.proofs.Onto.{answered_on}

-- ---- one epoch

greeted_whole : (first : Opening) (h : Journal) → Conducted first h → is_greeted h ≡ true → BeginsWith (answered_of h) (up_to_banner first.tells)
greeted_whole first h c greeted = let b = greets_first first h c greeted in record { rest = b.0; is = b.1 }

-- one that a reset ends was greeted
pub greeted_at_reset : (first : Opening) (h : Journal) → Conducted first h → MayReset first h → BeginsWith (answered_of h) (up_to_banner first.tells)
greeted_at_reset first h c may = greeted_whole first h c (greeted_where first h c may.told)

pub greeted_now : (first : Opening) (h : Journal) → Conducted first h → IsGreeted first.tells (answered_of h)
greeted_now first h c = by_banner (is_greeted h) refl
  where
    by_banner : (t : Bool) → is_greeted h ≡ t → IsGreeted first.tells (answered_of h)
    by_banner true is = inl (greeted_whole first h c is)
    by_banner false is = inr (record { rest = tells (left_of first h); is = sym (greets_still first h c is) })

-- ---- all of them

begins_on : (xs ys zs : List Reply) → BeginsWith xs zs → BeginsWith (xs ++ ys) zs
begins_on xs ys zs b = record { rest = b.rest ++ ys; is = ap (λ (rs : List Reply). rs ++ ys) b.is ∙ append_assoc zs b.rest ys }

begins_by : {xs ys zs : List Reply} → xs ≡ ys → BeginsWith ys zs → BeginsWith xs zs
begins_by same b = record { rest = b.rest; is = same ∙ b.is }

-- behind what begins with the banner
behind_banner : (before : BoardLog) (h : Journal) → BeginsWith (answered_in before) (Banner ∷ []) → BeginsWith (answered_in (log_behind before h)) (Banner ∷ [])
behind_banner before h b = begins_by (answered_on (known_in before) (port_log h) before) (begins_on (answered_in before) (answered_of h) (Banner ∷ []) b)

-- a reset's work answers nothing
behind_work : (number : ℕ) (before : BoardLog) (w : Work) → Works number before w → BeginsWith (answered_in before) (Banner ∷ []) → BeginsWith (answered_in (port_log w ++ before)) (Banner ∷ [])
behind_work number before w works b = begins_by (no_replies number before w works) b

-- an epoch that a reset ends, behind closed ones
pub banner_at_reset : (blocks : ℕ) (state : State) (es : NewestFirst Closed) (h : Journal) → AreClosed blocks state es → Conducted (opening_behind blocks state es) h → MayReset (opening_behind blocks state es) h
    → BeginsWith (answered_in (log_behind (closed_log es) h)) (Banner ∷ [])
banner_at_reset blocks state [] h closed c may = begins_by (answered_on 0 (port_log h) []) (greeted_at_reset (opening_behind blocks state []) h c may)
banner_at_reset blocks state (e ∷ es) h closed c may =
    behind_banner (closed_log (e ∷ es)) h
    (behind_work (last_line (opening_behind blocks state es) e.journal) (log_behind (closed_log es) e.journal) e.work closed.0.resetting.works
    (banner_at_reset blocks state es e.journal closed.1 closed.0.resetting.epoch.conducted closed.0.resetting.may))

-- an open one
banner_now : (blocks : ℕ) (state : State) (es : NewestFirst Closed) (h : Journal) → AreClosed blocks state es → Conducted (opening_behind blocks state es) h → IsGreeted (Banner ∷ []) (answered_in (log_behind (closed_log es) h))
banner_now blocks state [] h closed c = by_own (greeted_now (opening_behind blocks state []) h c)
  where
    by_own : IsGreeted (Banner ∷ []) (answered_of h) → IsGreeted (Banner ∷ []) (answered_in (log_behind [] h))
    by_own (inl b) = inl (begins_by (answered_on 0 (port_log h) []) b)
    by_own (inr b) = inr (record { rest = b.rest; is = b.is ∙ ap (λ (rs : List Reply). rs ++ b.rest) (sym (answered_on 0 (port_log h) [])) })
banner_now blocks state (e ∷ es) h closed c =
    inl (behind_banner (closed_log (e ∷ es)) h
    (behind_work (last_line (opening_behind blocks state es) e.journal) (log_behind (closed_log es) e.journal) e.work closed.0.resetting.works
    (banner_at_reset blocks state es e.journal closed.1 closed.0.resetting.epoch.conducted closed.0.resetting.may)))

pub banner_first : (blocks : ℕ) (state : State) (es : Epochs) → AreEpochs blocks state es → IsGreeted (Banner ∷ []) (answered_in (log_of es))
banner_first blocks state (goes es h) are = banner_now blocks state es h are.0 are.1.conducted
banner_first blocks state (resets es h w) are =
    inl (behind_work (last_line (opening_behind blocks state es) h) (log_behind (closed_log es) h) w are.1.works
    (banner_at_reset blocks state es h are.0 are.1.epoch.conducted are.1.may))
