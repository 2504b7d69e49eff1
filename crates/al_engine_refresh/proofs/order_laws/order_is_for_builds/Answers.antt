use Rattle.al_engine_refresh.proofs.Settings.{is_setting}
use Rattle.al_engine_refresh.proofs.BuildOrder.{is_order, setting_by}
use Rattle.al_engine_refresh.proofs.order_laws.order_is_for_builds.Goals as goal

pub returns : goal.returns
returns c = λ header lib predefined order headed named answers ordered.
    (setting_by header lib predefined order (is_setting header lib predefined order headed named answers ordered) ordered, is_order header lib predefined order ordered)
