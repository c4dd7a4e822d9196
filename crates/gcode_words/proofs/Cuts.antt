-- How comments cut a line.
use Rattle.std.proofs.Common.{◌≡◌, ℕ, false, List, ◌∷◌, ◌++◌, length, sym, ◌∙◌, ap, arith, append_assoc, append-nil}
use Rattle.std.specs.List.{list_any}
use Rattle.gcode_words.specs.Comments.{begins_comment, ends_comment, cut}
use Rattle.gcode_words.specs.declared.stripping.Comment.TheVariants.{Outside, Paren, Semicolon}
use Rattle.gcode_words.proofs.Scanning.{scan, behind, scan-append, scan_plain, scan_paren, scan_semicolon, cut_scan}

cut_is : (line : List ℕ) → cut line ≡ scan Outside line
cut_is line = cut_scan (length line) line (omega arith)

-- a front without a comment, and the rest
plain_front : (front rest : List ℕ) → list_any begins_comment front ≡ false → cut (front ++ rest) ≡ behind front (scan Outside rest)
plain_front front rest none = cut_is (front ++ rest) ∙ scan-append Outside front rest ∙ ap (λ c. behind c.outside (scan c.comment rest)) (scan_plain front none)

pub cut_none : (line : List ℕ) → list_any begins_comment line ≡ false → cut line ≡ record { outside = line; comment = Outside }
cut_none line none = cut_is line ∙ scan_plain line none

pub cut_semicolon : (front comment : List ℕ) → list_any begins_comment front ≡ false → cut (front ++ 59 ∷ comment) ≡ record { outside = front; comment = Semicolon }
cut_semicolon front comment none = plain_front front (59 ∷ comment) none ∙ ap (behind front) (scan_semicolon comment) ∙ ap (λ l. record { outside = l; comment = Semicolon }) (append-nil front)

pub cut_unclosed : (front comment : List ℕ) → list_any begins_comment front ≡ false → list_any ends_comment comment ≡ false
    → cut (front ++ 40 ∷ comment) ≡ record { outside = front; comment = Paren }
cut_unclosed front comment none open_ = plain_front front (40 ∷ comment) none ∙ ap (behind front) (scan_paren comment open_) ∙ ap (λ l. record { outside = l; comment = Paren }) (append-nil front)

pub cut_closed : (front comment rest : List ℕ) → list_any begins_comment front ≡ false → list_any ends_comment comment ≡ false
    → cut (front ++ 40 ∷ comment ++ 41 ∷ rest) ≡ record { outside = front ++ (cut rest).outside; comment = (cut rest).comment }
cut_closed front comment rest none within =
    let through : scan Paren (comment ++ 41 ∷ rest) ≡ scan Outside rest = scan-append Paren comment (41 ∷ rest) ∙ ap (λ c. behind c.outside (scan c.comment (41 ∷ rest))) (scan_paren comment within) in
    ap cut (append_assoc front (40 ∷ comment) (41 ∷ rest)) ∙ plain_front front (40 ∷ (comment ++ 41 ∷ rest)) none ∙ ap (behind front) (through ∙ sym (cut_is rest))
