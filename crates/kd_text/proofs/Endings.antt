-- A text that ends with a line feed, and the line before it.
use Rattle.std.proofs.Common.{◌≡◌, ℕ, List, [], ◌∷◌, ◌++◌, sym, ap, ◌∙◌}
use Rattle.std.proofs.lemmas.List.{append_cancel_right, same_from_push}

-- there is only one such line
pub one_line : (text body line : List ℕ) → text ≡ body ++ 10 ∷ [] → text ≡ line ++ 10 ∷ [] → line ≡ body
one_line text body line ends is = sym (append_cancel_right body line (10 ∷ []) (sym ends ∙ is))

-- the bytes before the last are a line if and only if the text is that line and a line feed
pub front_is_line : (text front line : List ℕ) (last : ℕ) → text ≡ front ++ last ∷ [] → text ≡ line ++ 10 ∷ [] → front ≡ line
front_is_line text front line last whole is = (same_from_push front line last 10 (sym whole ∙ is)).0

pub line_is_front : (text body front line : List ℕ) (last : ℕ) → text ≡ body ++ 10 ∷ [] → text ≡ front ++ last ∷ [] → front ≡ line → text ≡ line ++ 10 ∷ []
line_is_front text body front line last ends whole same =
    let feed = (same_from_push front body last 10 (sym whole ∙ ends)).1 in
    whole ∙ ap (λ t. t ++ last ∷ []) same ∙ ap (λ b. line ++ b ∷ []) feed
