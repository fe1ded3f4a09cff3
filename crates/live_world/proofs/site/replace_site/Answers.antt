use Rattle.std.proofs.Common.{◌≡◌, rules, ◌∙◌}
use Rattle.live_world.proofs.AtSites.{site_back}
use Rattle.live_world.proofs.SiteEvents.{put_back}
use Rattle.live_world.proofs.site.replace_site.Goals as goal

pub returns-then-term-eq0-clause-err : goal.returns-then-term-eq0-clause-err
returns-then-term-eq0-clause-err c =
    put_back c.args.sites.now.items c.take_site.new.sites.items c.put_site.new.sites.items c.args.keeper c.in-Some.old c.in-Some.ensures.some.1
    c.put_site.ensures
    ∙ site_back c.args.sites.now.items c.args.keeper c.in-Some.ensures.some.0

pub returns-clause-replaced : goal.returns-clause-replaced
returns-clause-replaced c = record {
  before = c.in-Some.old;
  there = c.in-Some.ensures.some.0;
  under = search rules;
  granted = search rules;
  put =
      put_back c.args.sites.now.items c.take_site.new.sites.items c.put_site-2.new.sites.items c.args.keeper _ c.in-Some.ensures.some.1 c.put_site-2.ensures;
}
