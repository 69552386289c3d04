-- The options that classes give, one class after another, and those that are sent, one code after another.
use Rattle.std.proofs.Common.{◌≡◌, ℕ, ◌+◌, ◌<◌, List, [], ◌∷◌, ◌++◌, false, Some, ap, ◌∙◌, filter, length, true, slice_get, take}
use Rattle.std.specs.List.{flat_map}
use Rattle.std.proofs.lemmas.Grind.{flat_map-append}
use Rattle.std.proofs.lemmas.List.{append-nil, take_more}
use Rattle.std.proofs.lemmas.List.Elements.{filter-append}
use Rattle.std.proofs.lemmas.Option.{get_or_from_slice_get, slice_get_within}
use Rattle.kd_classes.specs.declared.definition.ClassDef.{ClassDef}
use Rattle.kd_classes.specs.declared.option_list.OptionData.{OptionData}
use Rattle.kd_config.specs.Configuration.{Configuration}
use Rattle.kd_config.specs.Networks.{part_holding}
use Rattle.kd_config.specs.declared.subnet.Subnet.{Subnet}
use Rattle.kd_machine.specs.Parts.{is_held}
use Rattle.kd_lease.specs.Given.{class_options, given, mask_option, prefix_mask, options_of_pool, reserved_options}
use Rattle.kd_options.specs.Message.{Seen}

class_options-append : (a b : List ClassDef) (names : List (List ℕ)) → class_options (a ++ b) names ≡ class_options a names ++ class_options b names
class_options-append a b names =
    let held : ClassDef → _ = λ class. is_held class.name names in
    ap (flat_map (λ class. class.options)) (filter-append held a b) ∙ flat_map-append (λ class. class.options) (filter held a) (filter held b)

-- a class that is held gives its options
pub one_held : (class : ClassDef) (names : List (List ℕ)) → is_held class.name names ≡ true → class_options (class ∷ []) names ≡ class.options
one_held class names held = rw held (append-nil class.options)

pub more_classes : (classes : List ClassDef) (names : List (List ℕ)) (i : ℕ) (class : ClassDef) → slice_get classes i ≡ Some class
    → class_options (take (i + 1) classes) names ≡ class_options (take i classes) names ++ class_options (class ∷ []) names
more_classes classes names i class at =
    let within : i < length classes = slice_get_within classes i class at in
    ap (λ cs. class_options cs names) (take_more classes i class within ∙ ap (λ c. take i classes ++ c ∷ []) (get_or_from_slice_get classes i class class at))
    ∙ class_options-append (take i classes) (class ∷ []) names

-- the options of a configuration, each list as it is found
pub all_given : (config : Configuration) (subnet part : Subnet) (names : List (List ℕ)) (m : Seen) (address : ℕ) (host pool classes all : List OptionData) (mask : List ℕ)
    → host ≡ reserved_options config names m subnet address → pool ≡ options_of_pool subnet.pools address → part ≡ part_holding config.subnets subnet address → classes ≡ class_options config.classes names → all ≡ config.options → mask ≡ prefix_mask part.prefix
    → host ++ pool ++ part.options ++ part.shared ++ classes ++ all ++ record { code = 1; value = mask; always = false } ∷ [] ≡ given config subnet names m address
unfolding given
all_given config subnet part names m address host pool classes all mask h o p c a k =
    (λ i. h i ++ o i ++ part.options ++ part.shared ++ c i ++ a i ++ record { code = 1; value = k i; always = false } ∷ [])
    ∙ ap (λ (s : Subnet). reserved_options config names m subnet address ++ options_of_pool subnet.pools address ++ s.options ++ s.shared ++ class_options config.classes names ++ config.options ++ mask_option s.prefix ∷ []) p

-- the options that a subnet gives, each list as it is found
pub all_of_subnet : (part : Subnet) (host pool own shared : List OptionData) → own ≡ part.options → shared ≡ part.shared
    → host ++ pool ++ own ++ shared ≡ host ++ pool ++ part.options ++ part.shared
all_of_subnet part host pool own shared o n = λ i. host ++ pool ++ o i ++ n i
